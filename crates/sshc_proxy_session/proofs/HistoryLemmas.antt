-- What a connection keeps is what its history says.
use Rattle.std.proofs.Common.{◌≡◌, ◌⊎◌, ℕ, Bool, true, false, List, [], ◌∷◌, ◌++◌, Option, Some, None, refl, ap, sym, subst, ◌∙◌, inl, inr, append_assoc}
use Rattle.std.specs.Prelude.{All, fold, map, option_map}
use Rattle.std.specs.List.{AllByRecursion, cons_option, filter_map}
use Rattle.std.proofs.lemmas.List.{append-nil}
use Rattle.std.proofs.lemmas.List.Elements.{All-from_recursion, recursion_from_All}
use Rattle.std.proofs.lemmas.List.Sums.{fold_push}
use Rattle.sshc_key.specs.AgentNumbers.{SIGN_REQUEST}
use Rattle.sshc_proxy.specs.declared.waiting.Awaited.{Awaited}
use Rattle.sshc_proxy.specs.Binding.{Accepts, Binding, binding_of, is_signed}
use Rattle.sshc_proxy.specs.ProxyTable.{asked_by}
use Rattle.sshc_proxy_session.specs.declared.bound.Bound.{Bound}
use Rattle.sshc_proxy_session.specs.declared.event.SessionInput.{SessionInput}
use Rattle.sshc_proxy_session.specs.declared.event.SessionInput.TheVariants as inputs
use Rattle.sshc_proxy_session.specs.declared.event.SessionOutput.{SessionOutput}
use Rattle.sshc_proxy_session.specs.declared.event.SessionOutput.TheVariants as outputs
use Rattle.sshc_proxy_session.specs.declared.session_policy.SessionRule.{SessionRule}
use Rattle.sshc_proxy_session.specs.SessionTable.{Standing, Starves, Steps, Takes, binding_by, bound_of, moved, next_awaited, question_in, session_row, verdict, with_binding}
use Rattle.sshc_proxy_session.specs.SessionHistory.{AllKeep, AreBytes, AreHops, IsBinding, IsForwarded, IsRequest, Remembers, Says, Step, bound, bound_in, forwarded, forwarded_by}
use Rattle.sshc_proxy_session.proofs.RowLemmas.{answer_good, frame_good}
use Rattle.sshc_proxy_session.proofs.WayLemmas.{hops_more}

-- ---- one more step

abbrev added : List Binding → Option Binding → List Binding
added bindings None = bindings
added bindings (Some binding) = bindings ++ binding ∷ []

one_added : (o : Option Binding) → cons_option o [] ≡ added [] o
one_added None = refl
one_added (Some binding) = refl

cons_added : (o p : Option Binding) (bindings : List Binding) → cons_option o (added bindings p) ≡ added (cons_option o bindings) p
cons_added None None bindings = refl
cons_added None (Some b) bindings = refl
cons_added (Some a) None bindings = refl
cons_added (Some a) (Some b) bindings = refl

bound_push : (steps : List Step) (step : Step) → bound (steps ++ step ∷ []) ≡ added (bound steps) (bound_in step.input step.output)
bound_push [] step = one_added (bound_in step.input step.output)
bound_push (s ∷ steps) step = ap (cons_option (bound_in s.input s.output)) (bound_push steps step) ∙ cons_added (bound_in s.input s.output) (bound_in step.input step.output) (bound steps)

seen_push : (bindings : List Binding) (binding : Binding) → map bound_of bindings ++ bound_of binding ∷ [] ≡ map bound_of (bindings ++ binding ∷ [])
seen_push [] binding = refl
seen_push (b ∷ bindings) binding = ap (λ (l : List Bound). bound_of b ∷ l) (seen_push bindings binding)

seen_added : (bindings : List Binding) (o : Option Binding) → with_binding bound_of (map bound_of bindings) o ≡ map bound_of (added bindings o)
seen_added bindings None = refl
seen_added bindings (Some binding) = seen_push bindings binding

same_binding : (input : SessionInput) (output : SessionOutput) → binding_by input output ≡ bound_in input output
same_binding (inputs.Frame whole) outputs.Bound = refl
same_binding (inputs.Frame whole) (outputs.Forward frame) = refl
same_binding (inputs.Frame whole) (outputs.Answer frame) = refl
same_binding (inputs.Frame whole) (outputs.Refused reason) = refl
same_binding (inputs.Frame whole) outputs.Nothing = refl
same_binding (inputs.Frame whole) outputs.NoMemory = refl
same_binding (inputs.Upstream answer) output = refl

awaited-forwarded : (last : Option (List ℕ)) (input : SessionInput) (output : SessionOutput) → next_awaited (option_map asked_by last) input output ≡ option_map asked_by (forwarded_by last input output)
awaited-forwarded last input outputs.NoMemory = refl
awaited-forwarded last (inputs.Upstream answer) (outputs.Forward frame) = refl
awaited-forwarded last (inputs.Upstream answer) (outputs.Answer frame) = refl
awaited-forwarded last (inputs.Upstream answer) outputs.Bound = refl
awaited-forwarded last (inputs.Upstream answer) (outputs.Refused reason) = refl
awaited-forwarded last (inputs.Upstream answer) outputs.Nothing = refl
awaited-forwarded last (inputs.Frame whole) (outputs.Forward frame) = refl
awaited-forwarded last (inputs.Frame whole) (outputs.Answer frame) = refl
awaited-forwarded last (inputs.Frame whole) outputs.Bound = refl
awaited-forwarded last (inputs.Frame whole) (outputs.Refused reason) = refl
awaited-forwarded last (inputs.Frame whole) outputs.Nothing = refl

keep_more : (accepts : Accepts) (policy : List SessionRule) (earlier steps : List Step) (step : Step) → AllKeep accepts policy earlier steps → Says accepts policy (earlier ++ steps) step.input step.output
    → AllKeep accepts policy earlier (steps ++ step ∷ [])
keep_more accepts policy earlier [] step all last = (subst (λ (e : List Step). Says accepts policy e step.input step.output) (append-nil earlier) last, tt)
keep_more accepts policy earlier (s ∷ steps) step all last =
    (all.0, keep_more accepts policy (earlier ++ s ∷ []) steps step all.1 (subst (λ (e : List Step). Says accepts policy e step.input step.output) (sym (append_assoc earlier (s ∷ []) steps)) last))

-- ---- what is bound

frame_is : (a b : List ℕ) → inputs.Frame a ≡ inputs.Frame b → b ≡ a
frame_is a b e = cc

push_signed : (accepts : Accepts) (bindings : List Binding) (binding : Binding) → AllByRecursion (λ b. is_signed accepts b ≡ true) bindings → is_signed accepts binding ≡ true
    → AllByRecursion (λ b. is_signed accepts b ≡ true) (bindings ++ binding ∷ [])
push_signed accepts [] binding all last = (last, tt)
push_signed accepts (b ∷ bindings) binding all last = (all.0, push_signed accepts bindings binding all.1 last)

-- the sessions that are bound have signatures, and but for the last they forward the agent
record AreBound (accepts : Accepts) (bindings : List Binding) : Type 0 where
  pub signed : All (λ binding. is_signed accepts binding ≡ true) bindings
  pub hops : AreHops bindings

binding_is : (a b : Binding) → Some a ≡ Some b → a ≡ b
binding_is a b e = cc

binds : (accepts : Accepts) (bindings : List Binding) (whole : List ℕ) (read : Option Binding) → AreBound accepts bindings → binding_of whole ≡ read → IsBinding accepts bindings (inputs.Frame whole) → AreBound accepts (added bindings read)
binds accepts bindings whole None are reads is = are
binds accepts bindings whole (Some binding) are reads is =
    let found : Some is.binding ≡ Some binding = sym is.binds ∙ ap binding_of (frame_is whole is.whole is.client) ∙ reads in
    let same : is.binding ≡ binding = binding_is is.binding binding found in
    record {
      signed = All-from_recursion (λ (b : Binding). is_signed accepts b ≡ true) (bindings ++ binding ∷ [])
          (push_signed accepts bindings binding (recursion_from_All (λ (b : Binding). is_signed accepts b ≡ true) bindings are.signed) (subst (λ (b : Binding). is_signed accepts b ≡ true) same is.signed));
      hops = hops_more bindings binding is.hops;
    }

are_more : (accepts : Accepts) (policy : List SessionRule) (steps : List Step) (input : SessionInput) (output : SessionOutput) → AreBound accepts (bound steps) → Says accepts policy steps input output
    → AreBound accepts (added (bound steps) (bound_in input output))
are_more accepts policy steps (inputs.Frame whole) outputs.Bound are says = binds accepts (bound steps) whole (binding_of whole) are refl says
are_more accepts policy steps (inputs.Frame whole) (outputs.Forward frame) are says = are
are_more accepts policy steps (inputs.Frame whole) (outputs.Answer frame) are says = are
are_more accepts policy steps (inputs.Frame whole) (outputs.Refused reason) are says = are
are_more accepts policy steps (inputs.Frame whole) outputs.Nothing are says = are
are_more accepts policy steps (inputs.Frame whole) outputs.NoMemory are says = are
are_more accepts policy steps (inputs.Upstream answer) output are says = are

-- ---- what isn't answered

some_is : (a b : List ℕ) → Some a ≡ Some b → b ≡ a
some_is a b e = cc

asks_request : {policy : List SessionRule} {bindings : List Binding} {whole frame : List ℕ} → IsForwarded policy bindings (inputs.Frame whole) frame → IsRequest whole
asks_request {policy} {bindings} {whole} {frame} f = elim f.asks [
  | inl listing ↦ inl (listing.0, sym (frame_is whole f.whole f.client) ∙ listing.1)
  | inr login ↦ inr (_, sym (frame_is whole f.whole f.client) ∙ login.frame)
]

next_request : (accepts : Accepts) (policy : List SessionRule) (steps : List Step) (input : SessionInput) (output : SessionOutput) (last : Option (List ℕ)) (whole : List ℕ) → ((w : List ℕ) → last ≡ Some w → IsRequest w)
    → Says accepts policy steps input output → forwarded_by last input output ≡ Some whole → IsRequest whole
next_request accepts policy steps input outputs.NoMemory last whole requests says e = requests whole e
next_request accepts policy steps (inputs.Upstream answer) (outputs.Forward frame) last whole requests says e = absurd cc
next_request accepts policy steps (inputs.Upstream answer) (outputs.Answer frame) last whole requests says e = absurd cc
next_request accepts policy steps (inputs.Upstream answer) outputs.Bound last whole requests says e = absurd cc
next_request accepts policy steps (inputs.Upstream answer) (outputs.Refused reason) last whole requests says e = absurd cc
next_request accepts policy steps (inputs.Upstream answer) outputs.Nothing last whole requests says e = absurd cc
next_request accepts policy steps (inputs.Frame w) (outputs.Forward frame) last whole requests says e = subst IsRequest (sym (some_is w whole e)) (asks_request says)
next_request accepts policy steps (inputs.Frame w) (outputs.Answer frame) last whole requests says e = requests whole e
next_request accepts policy steps (inputs.Frame w) outputs.Bound last whole requests says e = requests whole e
next_request accepts policy steps (inputs.Frame w) (outputs.Refused reason) last whole requests says e = requests whole e
next_request accepts policy steps (inputs.Frame w) outputs.Nothing last whole requests says e = requests whole e

-- ---- a step

abbrev standing_by : List Step → Option (List ℕ) → Standing
standing_by steps last = record { bindings = map bound_of (bound steps); awaits = option_map asked_by last }

row_good : (accepts : Accepts) (policy : List SessionRule) (steps : List Step) (verified : Bool) (input : SessionInput) (last : Option (List ℕ)) → AreHops (bound steps)
    → ((whole : List ℕ) → forwarded steps ≡ Some whole → IsRequest whole) → forwarded steps ≡ last → AreBytes input → verified ≡ verdict accepts (question_in (standing_by steps last) input)
    → Says accepts policy steps input (session_row verified policy (standing_by steps last) input)
row_good accepts policy steps verified (inputs.Frame whole) None hops requests is fits told = frame_good accepts policy steps hops verified whole fits told
row_good accepts policy steps verified (inputs.Frame whole) (Some last) hops requests is fits told = tt
row_good accepts policy steps verified (inputs.Upstream answer) None hops requests is fits told = tt
row_good accepts policy steps verified (inputs.Upstream answer) (Some last) hops requests is fits told = answer_good accepts policy steps hops last answer (requests last is) is

abbrev stands : Standing → List Step → Type 0
stands now steps = (now.bindings ≡ map bound_of (bound steps)) × (now.awaits ≡ option_map asked_by (forwarded steps))

standing_is : (now : Standing) (steps : List Step) → stands now steps → now ≡ standing_by steps (forwarded steps)
standing_is now steps is =
    ap (λ (b : List Bound). let s : Standing = record { bindings = b; awaits = now.awaits } in s) is.0
    ∙ ap (λ (a : Option Awaited). let s : Standing = record { bindings = map bound_of (bound steps); awaits = a } in s) is.1

says : (accepts : Accepts) (policy : List SessionRule) (steps : List Step) (verified : Bool) (input : SessionInput) (before after : Standing) (output : SessionOutput) → AreBytes input
    → verified ≡ verdict accepts (question_in before input) → Steps verified policy input before after output → Remembers accepts policy before steps → Says accepts policy steps input output
says accepts policy steps verified input before after output fits told (inl takes) knows =
    let is = standing_is before steps (knows.bindings, knows.awaits) in
    subst (Says accepts policy steps input) (sym (takes.row ∙ ap (λ (s : Standing). session_row verified policy s input) is))
    (row_good accepts policy steps verified input (forwarded steps) knows.hops knows.requests refl fits (told ∙ ap (λ (s : Standing). verdict accepts (question_in s input)) is))
says accepts policy steps verified input before after output fits told (inr starves) knows = subst (Says accepts policy steps input) (sym starves.nothing) tt

no_memory_stays : (now : Standing) (input : SessionInput) → now ≡ moved now input outputs.NoMemory
no_memory_stays now (inputs.Frame whole) = refl
no_memory_stays now (inputs.Upstream answer) = refl

moves : (verified : Bool) (policy : List SessionRule) (input : SessionInput) (before after : Standing) (output : SessionOutput) → Steps verified policy input before after output → after ≡ moved before input output
moves verified policy input before after output (inl takes) = takes.moves
moves verified policy input before after output (inr starves) = starves.unchanged ∙ no_memory_stays before input ∙ ap (moved before input) (sym starves.nothing)

-- a step that keeps the policy, and moves the connection as the table says
remembers_by : (accepts : Accepts) (policy : List SessionRule) (steps : List Step) (input : SessionInput) (before after : Standing) (output : SessionOutput) → Says accepts policy steps input output
    → after ≡ moved before input output → Remembers accepts policy before steps → Remembers accepts policy after (steps ++ record { input = input; output = output } ∷ [])
remembers_by accepts policy steps input before after output good now knows =
    let step : Step = record { input = input; output = output } in
    let are = are_more accepts policy steps input output (record { signed = knows.signed; hops = knows.hops }) good in
    let last : forwarded (steps ++ step ∷ []) ≡ forwarded_by (forwarded steps) input output = fold_push (λ last s. forwarded_by last s.input s.output) None steps step in
    record {
      kept = keep_more accepts policy [] steps step knows.kept good;
      signed = subst (λ (l : List Binding). All (λ binding. is_signed accepts binding ≡ true) l) (sym (bound_push steps step)) are.signed;
      hops = subst AreHops (sym (bound_push steps step)) are.hops;
      bindings =
          ap (λ (s : Standing). s.bindings) now ∙ ap (λ (b : List Bound). with_binding bound_of b (binding_by input output)) knows.bindings
          ∙ ap (with_binding bound_of (map bound_of (bound steps))) (same_binding input output) ∙ seen_added (bound steps) (bound_in input output) ∙ ap (map bound_of) (sym (bound_push steps step));
      awaits =
          ap (λ (s : Standing). s.awaits) now ∙ ap (λ (a : Option Awaited). next_awaited a input output) knows.awaits ∙ awaited-forwarded (forwarded steps) input output
          ∙ ap (option_map asked_by) (sym last);
      requests = λ whole e. next_request accepts policy steps input output (forwarded steps) whole knows.requests good (sym last ∙ e);
    }

-- what is remembered before a step is remembered after it, with that step
pub remembers_more : (accepts : Accepts) (policy : List SessionRule) (steps : List Step) (verified : Bool) (input : SessionInput) (before after : Standing) (output : SessionOutput) → AreBytes input
    → verified ≡ verdict accepts (question_in before input) → Steps verified policy input before after output → Remembers accepts policy before steps
    → Remembers accepts policy after (steps ++ record { input = input; output = output } ∷ [])
remembers_more accepts policy steps verified input before after output fits told does knows =
    remembers_by accepts policy steps input before after output (says accepts policy steps verified input before after output fits told does knows) (moves verified policy input before after output does) knows

-- and after one for which there was no memory
pub remembers_same : (accepts : Accepts) (policy : List SessionRule) (steps : List Step) (input : SessionInput) (now : Standing) → Remembers accepts policy now steps
    → Remembers accepts policy now (steps ++ record { input = input; output = outputs.NoMemory } ∷ [])
remembers_same accepts policy steps input now knows = remembers_by accepts policy steps input now now outputs.NoMemory tt (no_memory_stays now input) knows

-- a new connection remembers nothing
pub remembers_none : (accepts : Accepts) (policy : List SessionRule) → Remembers accepts policy (record { bindings = []; awaits = None }) []
remembers_none accepts policy = record {
  kept = tt;
  signed = All-from_recursion (λ (b : Binding). is_signed accepts b ≡ true) [] tt;
  hops = λ hops last e. absurd (nothing_is hops last e);
  bindings = refl;
  awaits = refl;
  requests = λ whole e. absurd cc;
}
  where
    nothing_is : (hops : List Binding) (last : Binding) → [] ≡ hops ++ last ∷ [] → ⊥
    nothing_is [] last e = absurd cc
    nothing_is (hop ∷ hops) last e = absurd cc
