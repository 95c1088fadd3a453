-- A run of a proxy from one action to the next, and to its end.
use Rattle.std.proofs.Common.{◌≡◌, ℕ, true, false, List, [], ◌++◌, Ok, Err, Result, refl, ap, sym, subst, ◌∙◌, inl, inr, append_assoc}
use Rattle.std.proofs.lemmas.List.{append-nil}
use Rattle.sshc_wire.specs.declared.source.Failed.{Failed}
use Rattle.sshc_wire.specs.declared.source.Failed.TheVariants as failures
use Rattle.sshc_wire.specs.Wire.{string_text, u32_text}
use Rattle.sshc_proxy.specs.declared.broken.Broken.{Broken}
use Rattle.sshc_proxy.specs.declared.broken.Broken.TheVariants as broken
use Rattle.sshc_proxy.specs.declared.error.ProxyError.{ProxyError}
use Rattle.sshc_proxy.specs.declared.error.ProxyError.TheVariants as errors
use Rattle.sshc_proxy.specs.declared.input.ProxyOutput.{ProxyOutput}
use Rattle.sshc_proxy.specs.Frames.{Breaks, ReadsFrame, Stream, WritesFrame}
use Rattle.sshc_proxy.specs.ProxyHistory.{AllFollow, Keeps, MayFollow, Remembers, Step}
use Rattle.sshc_proxy.specs.ProxyTable.{Proxy}
use Rattle.sshc_proxy.specs.ProxyRun.{CountsFaults, EndsLast, Ends, Relays, Stop, Streams, Terms, Transfers, answer_bytes, between, from_agent, from_client, in_frame, in_reply, long_frame, pending, streams, to_agent, to_client}
use Rattle.sshc_proxy.specs.Relaying.{Place, Relaying, Turned, framed, idle, reading_error, replying, writing_error}
use Rattle.sshc_proxy.proofs.TransferLemmas.{no_transfer, read_faulted, read_on, read_same, same_faults, unfaulted, write_faulted, written_on, written_same}

-- a run that stops here
pub stops : (terms : Terms) (before mid after : Streams) (core : Proxy) (place : Place) (stop : Stop) (result : Result (Unit {0}) ProxyError) (r : Relaying terms before mid core place)
    → Transfers (from_client r.steps ++ (pending stop).frame) (to_client r.steps) (pending stop).reply before.client after.client
    → Transfers (from_agent r.steps ++ (pending stop).answer) (to_agent r.steps) (pending stop).request before.agent after.agent → Ends stop r.steps after result
    → CountsFaults errors.ClientFault before.client after.client result → CountsFaults errors.AgentFault before.agent after.agent result → Relays terms before after result
stops terms before mid after core place stop result r client agent ends client_faults agent_faults = record {
  steps = r.steps;
  history = subst (λ (p : List _). AllFollow (MayFollow terms.accepts p) [] r.steps) r.policy r.knows.history;
  kept = subst (λ (p : List _). AllFollow (Keeps terms.accepts p) [] r.steps) r.policy r.knows.kept;
  order = r.order;
  fed = inl r.fed;
  stop = stop;
  client = client;
  agent = agent;
  ends = ends;
  client_faults = client_faults;
  agent_faults = agent_faults;
}

-- the end of an end
pub ends_more : (bytes : ProxyOutput → List ℕ) (piece front rest : List ℕ) (steps : List Step) → EndsLast bytes piece steps → piece ≡ front ++ rest → EndsLast bytes rest steps
ends_more bytes piece front rest steps (earlier, step, first, all, is) part =
    (earlier, step, first ++ front, all, is ∙ ap (λ (p : List ℕ). first ++ p) part ∙ sym (append_assoc first front rest))

-- before the first frame
pub begun : (terms : Terms) (start : Streams) (core : Proxy) → core.policy ≡ terms.policy → Remembers terms.accepts core [] → Relaying terms start start core idle
begun terms start core policy knows = record {
  steps = [];
  knows = knows;
  policy = policy;
  order = tt;
  fed = tt;
  at = refl;
  client = no_transfer start.client;
  agent = no_transfer start.agent;
  client_faults = same_faults start.client;
  agent_faults = same_faults start.agent;
}

module _ (terms : Terms) (before mid : Streams) (core : Proxy) where
  -- ---- a frame of the client

  pub frame_read : (client : Stream) (whole : List ℕ) → Relaying terms before mid core idle → ReadsFrame whole mid.client client (Ok true) → Relaying terms before (streams client mid.agent) core (framed whole)
  frame_read client whole r (small, read) = record {
    steps = r.steps;
    knows = r.knows;
    policy = r.policy;
    order = r.order;
    fed = r.fed;
    at = (r.at, small);
    client = read_on (from_client r.steps) (to_client r.steps) [] (string_text whole) before.client mid.client client r.client read.left read.held;
    agent = r.agent;
    client_faults = read_same (string_text whole) before.client mid.client client r.client_faults read;
    agent_faults = r.agent_faults;
  }

  pub client_ended : (client : Stream) (whole : List ℕ) → Relaying terms before mid core idle → ReadsFrame whole mid.client client (Ok false) → Turned terms before (streams client mid.agent) core (Ok false)
  client_ended client whole r (read, end) =
      stops terms before mid (streams client mid.agent) core idle between (Ok tt) r
      (read_on (from_client r.steps) (to_client r.steps) [] [] before.client mid.client client r.client read.left read.held) r.agent (r.at, end)
      (unfaulted errors.ClientFault before.client client (Ok tt) (λ e. absurd cc) (read_same [] before.client mid.client client r.client_faults read))
      (unfaulted errors.AgentFault before.agent mid.agent (Ok tt) (λ e. absurd cc) r.agent_faults)

  pub exhausted : Relaying terms before mid core idle → Relays terms before mid (Err errors.NoMemory)
  exhausted r =
      stops terms before mid mid core idle between (Err errors.NoMemory) r r.client r.agent (r.at, refl)
      (unfaulted errors.ClientFault before.client mid.client (Err errors.NoMemory) (λ e. absurd cc) r.client_faults)
      (unfaulted errors.AgentFault before.agent mid.agent (Err errors.NoMemory) (λ e. absurd cc) r.agent_faults)

  -- the error of a client's frame that can't be read whole
  pub client_broken : (client : Stream) (b : Broken) → Relaying terms before mid core idle → Breaks b mid.client client → Turned terms before (streams client mid.agent) core (Err (reading_error errors.ClientFault b))
  client_broken client broken.TooLong r (n, long, read) =
      stops terms before mid (streams client mid.agent) core idle (long_frame n) (Err errors.TooLong) r
      (read_on (from_client r.steps) (to_client r.steps) [] (u32_text n) before.client mid.client client r.client read.left read.held) r.agent (r.at, long, refl)
      (unfaulted errors.ClientFault before.client client (Err errors.TooLong) (λ e. absurd cc) (read_same (u32_text n) before.client mid.client client r.client_faults read))
      (unfaulted errors.AgentFault before.agent mid.agent (Err errors.TooLong) (λ e. absurd cc) r.agent_faults)
  client_broken client broken.UnexpectedEnd r (given, cut, some, read, end) =
      stops terms before mid (streams client mid.agent) core idle (in_frame given) (Err errors.UnexpectedEnd) r
      (read_on (from_client r.steps) (to_client r.steps) [] given before.client mid.client client r.client read.left read.held) r.agent (r.at, cut, inr (refl, some, end))
      (unfaulted errors.ClientFault before.client client (Err errors.UnexpectedEnd) (λ e. absurd cc) (read_same given before.client mid.client client r.client_faults read))
      (unfaulted errors.AgentFault before.agent mid.agent (Err errors.UnexpectedEnd) (λ e. absurd cc) r.agent_faults)
  client_broken client broken.Fault r (given, cut, read) =
      stops terms before mid (streams client mid.agent) core idle (in_frame given) (Err errors.ClientFault) r
      (read_on (from_client r.steps) (to_client r.steps) [] given before.client mid.client client r.client read.left read.held) r.agent (r.at, cut, inl (inr refl))
      (read_faulted errors.ClientFault given before.client mid.client client r.client_faults read)
      (unfaulted errors.AgentFault before.agent mid.agent (Err errors.ClientFault) (λ e. absurd cc) r.agent_faults)
  client_broken client broken.NoMemory r (given, cut, read) =
      stops terms before mid (streams client mid.agent) core idle (in_frame given) (Err errors.NoMemory) r
      (read_on (from_client r.steps) (to_client r.steps) [] given before.client mid.client client r.client read.left read.held) r.agent (r.at, cut, inl (inl refl))
      (unfaulted errors.ClientFault before.client client (Err errors.NoMemory) (λ e. absurd cc) (read_same given before.client mid.client client r.client_faults read))
      (unfaulted errors.AgentFault before.agent mid.agent (Err errors.NoMemory) (λ e. absurd cc) r.agent_faults)

  -- ---- an output to the client

  pub replied : (client : Stream) (frame : List ℕ) → Relaying terms before mid core (replying frame) → WritesFrame frame mid.client client (Ok tt) → Turned terms before (streams client mid.agent) core (Ok true)
  replied client frame r written = record {
    steps = r.steps;
    knows = r.knows;
    policy = r.policy;
    order = r.order;
    fed = r.fed;
    at = r.at.0;
    client = written_on (from_client r.steps ++ []) (to_client r.steps) frame frame [] before.client mid.client client r.client (sym (append-nil frame)) written.left written.held;
    agent = r.agent;
    client_faults = written_same frame before.client mid.client client r.client_faults written;
    agent_faults = r.agent_faults;
  }

  pub reply_cut : (client : Stream) (frame : List ℕ) (failed : Failed) → Relaying terms before mid core (replying frame) → WritesFrame frame mid.client client (Err failed)
      → Turned terms before (streams client mid.agent) core (Err (writing_error errors.ClientFault failed))
  reply_cut client frame failures.Fault r (front, rest, is, written) =
      stops terms before mid (streams client mid.agent) core (replying frame) (in_reply rest) (Err errors.ClientFault) r
      (written_on (from_client r.steps ++ []) (to_client r.steps) frame front rest before.client mid.client client r.client is written.left written.held) r.agent
      (ends_more answer_bytes frame front rest r.steps r.at.1 is, inr refl)
      (write_faulted errors.ClientFault front before.client mid.client client r.client_faults written)
      (unfaulted errors.AgentFault before.agent mid.agent (Err errors.ClientFault) (λ e. absurd cc) r.agent_faults)
  reply_cut client frame failures.NoMemory r (front, rest, is, written) =
      stops terms before mid (streams client mid.agent) core (replying frame) (in_reply rest) (Err errors.NoMemory) r
      (written_on (from_client r.steps ++ []) (to_client r.steps) frame front rest before.client mid.client client r.client is written.left written.held) r.agent
      (ends_more answer_bytes frame front rest r.steps r.at.1 is, inl refl)
      (unfaulted errors.ClientFault before.client client (Err errors.NoMemory) (λ e. absurd cc) (written_same front before.client mid.client client r.client_faults written))
      (unfaulted errors.AgentFault before.agent mid.agent (Err errors.NoMemory) (λ e. absurd cc) r.agent_faults)
