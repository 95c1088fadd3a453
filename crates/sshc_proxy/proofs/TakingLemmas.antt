-- A step in a run of a proxy, and what comes after it.
use Rattle.std.proofs.Common.{◌≡◌, ◌≢◌, ◌⊎◌, ℕ, true, List, [], ◌∷◌, ◌++◌, Option, Some, None, Ok, Err, refl, ap, sym, subst, ◌∙◌, inl, inr}
use Rattle.std.proofs.lemmas.List.Sums.{fold_push}
use Rattle.sshc_proxy.specs.declared.error.ProxyError.TheVariants as errors
use Rattle.sshc_proxy.specs.declared.input.ProxyInput.{ProxyInput}
use Rattle.sshc_proxy.specs.declared.input.ProxyInput.TheVariants as inputs
use Rattle.sshc_proxy.specs.declared.input.ProxyOutput.{ProxyOutput}
use Rattle.sshc_proxy.specs.declared.input.ProxyOutput.TheVariants as outputs
use Rattle.sshc_proxy.specs.declared.waiting.Awaited.{Awaited}
use Rattle.sshc_proxy.specs.Policy.{Rule}
use Rattle.sshc_proxy.specs.ProxyHistory.{AllFollow, Keeps, MayFollow, Remembers, Step, forwarded, forwarded_with}
use Rattle.sshc_proxy.specs.ProxyTable.{Proxy, Starves, Takes, answer_in, awaited_at, bound_at, next_forwarded}
use Rattle.sshc_proxy.specs.ProxyRun.{AreFed, IsInTurn, IsNext, Streams, Terms, Transfers, agent_bytes, answer_bytes, client_bytes, forward_bytes, from_agent, from_client, starved, to_agent, to_client}
use Rattle.sshc_proxy.specs.Relaying.{Relaying, SameFaults, Turned, asking, framed, heard, replying}
use Rattle.sshc_proxy.proofs.HistoryLemmas.{follow_more, remembers_more}
use Rattle.sshc_proxy.proofs.Moved.{answer_answers}
use Rattle.sshc_proxy.proofs.TransferLemmas.{stepped_on, unfaulted}

abbrev pub step_of : ProxyInput → ProxyOutput → Step
step_of input output = record { conn = 0; input = input; output = output }

-- what a call of the core did
abbrev pub Does : Terms → ProxyInput → Proxy → Proxy → ProxyOutput → Type 0
Does terms input core core' output = Takes terms.accepts 0 input core core' output ⊎ Starves core core' output

-- a run behind a step of this input and output, which is to be written
pub record Taken (terms : Terms) (before now : Streams) (core : Proxy) (input : ProxyInput) (output : ProxyOutput) : Type 0 where
  pub earlier : List Step
  pub knows : Remembers terms.accepts core (earlier ++ step_of input output ∷ [])
  pub policy : core.policy ≡ terms.policy
  pub order : AllFollow IsNext [] (earlier ++ step_of input output ∷ [])
  pub fed : AreFed earlier
  pub turn : IsInTurn (forwarded 0 earlier) input
  pub client : Transfers (from_client (earlier ++ step_of input output ∷ []) ++ []) (to_client (earlier ++ step_of input output ∷ [])) (answer_bytes output) before.client now.client
  pub agent : Transfers (from_agent (earlier ++ step_of input output ∷ []) ++ []) (to_agent (earlier ++ step_of input output ∷ [])) (forward_bytes output) before.agent now.agent
  pub client_faults : SameFaults before.client now.client
  pub agent_faults : SameFaults before.agent now.agent

policy_stays : (terms : Terms) (input : ProxyInput) (core core' : Proxy) (output : ProxyOutput) → Does terms input core core' output → core'.policy ≡ core.policy
policy_stays terms input core core' output (inl takes) = takes.moves.policy
policy_stays terms input core core' output (inr starves) = ap (λ (s : Proxy). s.policy) starves.unchanged

fed_more : (steps : List Step) (step : Step) → AreFed steps → step.output ≢ outputs.NoMemory → AreFed (steps ++ step ∷ [])
fed_more [] step fed last = (last, tt)
fed_more (s ∷ steps) step fed last = (fed.0, fed_more steps step fed.1 last)

-- which frame is unanswered behind a step
last_forwarded : (earlier : List Step) (input : ProxyInput) (output : ProxyOutput) → forwarded 0 (earlier ++ step_of input output ∷ []) ≡ next_forwarded (forwarded 0 earlier) input output
last_forwarded earlier input output = fold_push (forwarded_with 0) None earlier (step_of input output)

idle_behind_answer : (last : Option (List ℕ)) (input : ProxyInput) (frame : List ℕ) → IsInTurn last input → next_forwarded last input (outputs.Answer frame) ≡ None
idle_behind_answer None (inputs.Frame whole) frame turn = refl
idle_behind_answer None (inputs.Upstream answer) frame turn = absurd turn
idle_behind_answer None inputs.Close frame turn = absurd turn
idle_behind_answer (Some asked) (inputs.Frame whole) frame turn = absurd turn
idle_behind_answer (Some asked) (inputs.Upstream answer) frame turn = refl
idle_behind_answer (Some asked) inputs.Close frame turn = absurd turn

idle_behind_nothing : (last : Option (List ℕ)) (input : ProxyInput) → IsInTurn last input → next_forwarded last input outputs.Nothing ≡ None
idle_behind_nothing None (inputs.Frame whole) turn = refl
idle_behind_nothing None (inputs.Upstream answer) turn = absurd turn
idle_behind_nothing None inputs.Close turn = absurd turn
idle_behind_nothing (Some asked) (inputs.Frame whole) turn = absurd turn
idle_behind_nothing (Some asked) (inputs.Upstream answer) turn = refl
idle_behind_nothing (Some asked) inputs.Close turn = absurd turn

-- an answer of the agent is never forwarded
answered_only : (policy : List Rule) (hosts : List (List ℕ)) (waits : Option Awaited) (answer frame : List ℕ) → outputs.Forward frame ≡ answer_in policy hosts waits answer → ⊥
answered_only policy hosts None answer frame e = absurd cc
answered_only policy hosts (Some kind) answer frame e = let is = answer_answers policy hosts kind answer in let clash : outputs.Forward frame ≡ outputs.Answer is.0 = e ∙ is.1 in absurd cc

module _ (terms : Terms) (before mid : Streams) (core core' : Proxy) where
  -- ---- steps

  pub frame_taken : (whole : List ℕ) (output : ProxyOutput) → Relaying terms before mid core (framed whole) → Does terms (inputs.Frame whole) core core' output → Taken terms before mid core' (inputs.Frame whole) output
  frame_taken whole output r does =
      let turn : IsInTurn (forwarded 0 r.steps) (inputs.Frame whole) = subst (λ (last : Option (List ℕ)). IsInTurn last (inputs.Frame whole)) (sym r.at.0) r.at.1 in
      record {
        earlier = r.steps;
        knows = remembers_more terms.accepts core core' r.steps 0 (inputs.Frame whole) output does r.knows;
        policy = policy_stays terms (inputs.Frame whole) core core' output does ∙ r.policy;
        order = follow_more IsNext [] r.steps (step_of (inputs.Frame whole) output) r.order (record { conn = refl; turn = turn; fed = r.fed });
        fed = r.fed;
        turn = turn;
        client = stepped_on (λ (s : Step). client_bytes s.input) (λ (s : Step). answer_bytes s.output) r.steps (step_of (inputs.Frame whole) output) before.client mid.client r.client;
        agent = stepped_on (λ (s : Step). agent_bytes s.input) (λ (s : Step). forward_bytes s.output) r.steps (step_of (inputs.Frame whole) output) before.agent mid.agent r.agent;
        client_faults = r.client_faults;
        agent_faults = r.agent_faults;
      }

  pub answer_taken : (answer : List ℕ) (output : ProxyOutput) → Relaying terms before mid core (heard answer) → Does terms (inputs.Upstream answer) core core' output → Taken terms before mid core' (inputs.Upstream answer) output
  answer_taken answer output r does =
      let turn : IsInTurn (forwarded 0 r.steps) (inputs.Upstream answer) = subst (λ (last : Option (List ℕ)). IsInTurn last (inputs.Upstream answer)) (sym r.at.0.1) r.at.1 in
      record {
        earlier = r.steps;
        knows = remembers_more terms.accepts core core' r.steps 0 (inputs.Upstream answer) output does r.knows;
        policy = policy_stays terms (inputs.Upstream answer) core core' output does ∙ r.policy;
        order = follow_more IsNext [] r.steps (step_of (inputs.Upstream answer) output) r.order (record { conn = refl; turn = turn; fed = r.fed });
        fed = r.fed;
        turn = turn;
        client = stepped_on (λ (s : Step). client_bytes s.input) (λ (s : Step). answer_bytes s.output) r.steps (step_of (inputs.Upstream answer) output) before.client mid.client r.client;
        agent = stepped_on (λ (s : Step). agent_bytes s.input) (λ (s : Step). forward_bytes s.output) r.steps (step_of (inputs.Upstream answer) output) before.agent mid.agent r.agent;
        client_faults = r.client_faults;
        agent_faults = r.agent_faults;
      }

  pub never_forwarded : (answer frame : List ℕ) → Does terms (inputs.Upstream answer) core core' (outputs.Forward frame) → ⊥
  never_forwarded answer frame (inl takes) = answered_only core.policy (bound_at core.bound 0) (awaited_at core.awaits 0) answer frame takes.row
  never_forwarded answer frame (inr starves) = let none = starves.nothing in absurd cc

module _ (terms : Terms) (before mid : Streams) (core : Proxy) (input : ProxyInput) where
  -- ---- outputs

  pub replies : (frame : List ℕ) → Taken terms before mid core input (outputs.Answer frame) → Relaying terms before mid core (replying frame)
  replies frame t = record {
    steps = t.earlier ++ step_of input (outputs.Answer frame) ∷ [];
    knows = t.knows;
    policy = t.policy;
    order = t.order;
    fed = fed_more t.earlier (step_of input (outputs.Answer frame)) t.fed (λ e. absurd cc);
    at = (
      last_forwarded t.earlier input (outputs.Answer frame) ∙ idle_behind_answer (forwarded 0 t.earlier) input frame t.turn,
      (t.earlier, step_of input (outputs.Answer frame), [], refl, refl),
    );
    client = t.client;
    agent = t.agent;
    client_faults = t.client_faults;
    agent_faults = t.agent_faults;
  }

  pub ignores : Taken terms before mid core input outputs.Nothing → Turned terms before mid core (Ok true)
  ignores t = record {
    steps = t.earlier ++ step_of input outputs.Nothing ∷ [];
    knows = t.knows;
    policy = t.policy;
    order = t.order;
    fed = fed_more t.earlier (step_of input outputs.Nothing) t.fed (λ e. absurd cc);
    at = last_forwarded t.earlier input outputs.Nothing ∙ idle_behind_nothing (forwarded 0 t.earlier) input t.turn;
    client = t.client;
    agent = t.agent;
    client_faults = t.client_faults;
    agent_faults = t.agent_faults;
  }

  pub starves : Taken terms before mid core input outputs.NoMemory → Turned terms before mid core (Err errors.NoMemory)
  starves t = record {
    steps = t.earlier ++ step_of input outputs.NoMemory ∷ [];
    history = subst (λ (p : List Rule). AllFollow (MayFollow terms.accepts p) [] (t.earlier ++ step_of input outputs.NoMemory ∷ [])) t.policy t.knows.history;
    kept = subst (λ (p : List Rule). AllFollow (Keeps terms.accepts p) [] (t.earlier ++ step_of input outputs.NoMemory ∷ [])) t.policy t.knows.kept;
    order = t.order;
    fed = inr refl;
    stop = starved;
    client = t.client;
    agent = t.agent;
    ends = refl;
    client_faults = unfaulted errors.ClientFault before.client mid.client (Err errors.NoMemory) (λ e. absurd cc) t.client_faults;
    agent_faults = unfaulted errors.AgentFault before.agent mid.agent (Err errors.NoMemory) (λ e. absurd cc) t.agent_faults;
  }

pub asks : (terms : Terms) (before mid : Streams) (core : Proxy) (whole frame : List ℕ) → Taken terms before mid core (inputs.Frame whole) (outputs.Forward frame) → Relaying terms before mid core (asking frame)
asks terms before mid core whole frame t = record {
  steps = t.earlier ++ step_of (inputs.Frame whole) (outputs.Forward frame) ∷ [];
  knows = t.knows;
  policy = t.policy;
  order = t.order;
  fed = fed_more t.earlier (step_of (inputs.Frame whole) (outputs.Forward frame)) t.fed (λ e. absurd cc);
  at = (
    (whole, last_forwarded t.earlier (inputs.Frame whole) (outputs.Forward frame)),
    (t.earlier, step_of (inputs.Frame whole) (outputs.Forward frame), [], refl, refl),
  );
  client = t.client;
  agent = t.agent;
  client_faults = t.client_faults;
  agent_faults = t.agent_faults;
}
