-- What a core keeps is what its history says.
use Rattle.std.proofs.Common.{◌≡◌, ◌⊎◌, ℕ, Bool, true, false, List, [], ◌∷◌, ◌++◌, Option, Some, None, refl, ap, sym, subst, ◌∙◌, inl, inr, append_assoc}
use Rattle.std.specs.Prelude.{if◌then◌else◌, ◌==◌, option_map}
use Rattle.std.proofs.lemmas.Bool.{cond_both, eqb-true}
use Rattle.std.proofs.lemmas.List.{append-nil}
use Rattle.std.proofs.lemmas.List.Sums.{fold_push}
use Rattle.sshc_proxy.specs.declared.input.ProxyInput.{ProxyInput}
use Rattle.sshc_proxy.specs.declared.input.ProxyInput.TheVariants as inputs
use Rattle.sshc_proxy.specs.declared.input.ProxyOutput.{ProxyOutput}
use Rattle.sshc_proxy.specs.declared.input.ProxyOutput.TheVariants as outputs
use Rattle.sshc_proxy.specs.declared.waiting.Awaited.{Awaited}
use Rattle.sshc_proxy.specs.Policy.{Rule}
use Rattle.sshc_proxy.specs.Binding.{Accepts}
use Rattle.sshc_proxy.specs.ProxyTable.{Moves, Proxy, Starves, Takes, asked_by, awaited_at, bound_at, next_awaited, next_bound, next_forwarded, proxy_row, row_in}
use Rattle.sshc_proxy.specs.ProxyHistory.{AllFollow, AreRequests, IsForwarded, IsRequest, Keeps, MayFollow, Remembers, Says, Step, bound, bound_with, forwarded, forwarded_with}
use Rattle.sshc_proxy.proofs.Moved.{starved_stays}
use Rattle.sshc_proxy.proofs.RowLemmas.{keeps}

pub follow_more : (Follows : List Step → Step → Type 0) (earlier steps : List Step) (step : Step) → AllFollow Follows earlier steps → Follows (earlier ++ steps) step → AllFollow Follows earlier (steps ++ step ∷ [])
follow_more Follows earlier [] step all last = (subst (λ (e : List Step). Follows e step) (append-nil earlier) last, tt)
follow_more Follows earlier (s ∷ steps) step all last =
    (all.0, follow_more Follows (earlier ++ s ∷ []) steps step all.1 (subst (λ (e : List Step). Follows e step) (sym (append_assoc earlier (s ∷ []) steps)) last))

some_is : (a b : List ℕ) → Some a ≡ Some b → b ≡ a
some_is a b e = cc

frame_is : (a b : List ℕ) → inputs.Frame a ≡ inputs.Frame b → b ≡ a
frame_is a b e = cc

asks_request : {policy : List Rule} {hosts : List (List ℕ)} {whole frame : List ℕ} → IsForwarded policy hosts (inputs.Frame whole) frame → IsRequest whole
asks_request {policy} {hosts} {whole} {frame} f = elim f.asks [
  | inl listing ↦ inl (listing.0, sym (frame_is whole f.whole f.client) ∙ listing.1)
  | inr sign ↦ inr (sign.body, sym (frame_is whole f.whole f.client) ∙ sign.number)
]

next_request : (accepts : Accepts) (policy : List Rule) (steps : List Step) (conn : ℕ) (input : ProxyInput) (output : ProxyOutput) (last : Option (List ℕ)) (whole : List ℕ)
    → ((w : List ℕ) → last ≡ Some w → IsRequest w) → Says accepts policy steps (record { conn = conn; input = input; output = output }) output → next_forwarded last input output ≡ Some whole → IsRequest whole
next_request accepts policy steps conn input outputs.NoMemory last whole requests good e = requests whole e
next_request accepts policy steps conn inputs.Close (outputs.Forward frame) last whole requests good e = absurd cc
next_request accepts policy steps conn inputs.Close (outputs.Answer frame) last whole requests good e = absurd cc
next_request accepts policy steps conn inputs.Close outputs.Nothing last whole requests good e = absurd cc
next_request accepts policy steps conn (inputs.Upstream answer) (outputs.Forward frame) last whole requests good e = absurd cc
next_request accepts policy steps conn (inputs.Upstream answer) (outputs.Answer frame) last whole requests good e = absurd cc
next_request accepts policy steps conn (inputs.Upstream answer) outputs.Nothing last whole requests good e = absurd cc
next_request accepts policy steps conn (inputs.Frame w) (outputs.Forward frame) last whole requests good e = subst IsRequest (sym (some_is w whole e)) (asks_request good)
next_request accepts policy steps conn (inputs.Frame w) (outputs.Answer frame) last whole requests good e = requests whole e
next_request accepts policy steps conn (inputs.Frame w) outputs.Nothing last whole requests good e = requests whole e

requests_more : (accepts : Accepts) (policy : List Rule) (steps : List Step) (conn : ℕ) (input : ProxyInput) (output : ProxyOutput) → AreRequests steps
    → Says accepts policy steps (record { conn = conn; input = input; output = output }) output → AreRequests (steps ++ record { conn = conn; input = input; output = output } ∷ [])
requests_more accepts policy steps conn input output requests good c whole e =
    let last = forwarded c steps in
    let now : (if conn == c then next_forwarded last input output else last) ≡ Some whole =
    sym (fold_push (forwarded_with c) None steps (record { conn = conn; input = input; output = output })) ∙ e in
    cond_both (conn == c) (next_forwarded last input output) last (λ (o : Option (List ℕ)). o ≡ Some whole → IsRequest whole)
    (λ _ is. next_request accepts policy steps conn input output last whole (requests c) good is) (λ _ is. requests c whole is) now

awaited-forwarded : (last : Option (List ℕ)) (input : ProxyInput) (output : ProxyOutput) → next_awaited (option_map asked_by last) input output ≡ option_map asked_by (next_forwarded last input output)
awaited-forwarded last input outputs.NoMemory = refl
awaited-forwarded last inputs.Close (outputs.Forward frame) = refl
awaited-forwarded last inputs.Close (outputs.Answer frame) = refl
awaited-forwarded last inputs.Close outputs.Nothing = refl
awaited-forwarded last (inputs.Upstream answer) (outputs.Forward frame) = refl
awaited-forwarded last (inputs.Upstream answer) (outputs.Answer frame) = refl
awaited-forwarded last (inputs.Upstream answer) outputs.Nothing = refl
awaited-forwarded last (inputs.Frame whole) (outputs.Forward frame) = refl
awaited-forwarded last (inputs.Frame whole) (outputs.Answer frame) = refl
awaited-forwarded last (inputs.Frame whole) outputs.Nothing = refl

mapped_choice : (b : Bool) (x y : Option (List ℕ)) → (if b then option_map asked_by x else option_map asked_by y) ≡ option_map asked_by (if b then x else y)
mapped_choice true x y = refl
mapped_choice false x y = refl

-- what is kept at a connection, which is the one of the step or isn't
bound_more : (conn c : ℕ) (before : List (ℕ × List (List ℕ))) (steps : List Step) (input : ProxyInput) (output : ProxyOutput) → ((k : ℕ) → bound_at before k ≡ bound k steps)
    → (if conn == c then next_bound (bound_at before conn) input output else bound_at before c) ≡ bound_with c (bound c steps) (record { conn = conn; input = input; output = output })
bound_more conn c before steps input output is = by (conn == c) refl
  where
    by : (b : Bool) → conn == c ≡ b → (if b then next_bound (bound_at before conn) input output else bound_at before c) ≡ (if b then next_bound (bound c steps) input output else bound c steps)
    by true e = ap (λ (hosts : List (List ℕ)). next_bound hosts input output) (is conn ∙ ap (λ (k : ℕ). bound k steps) (eqb-true conn c e))
    by false e = is c

awaits_more : (conn c : ℕ) (before : List (ℕ × Awaited)) (steps : List Step) (input : ProxyInput) (output : ProxyOutput) → ((k : ℕ) → awaited_at before k ≡ option_map asked_by (forwarded k steps))
    → (if conn == c then next_awaited (awaited_at before conn) input output else awaited_at before c) ≡ option_map asked_by (forwarded_with c (forwarded c steps) (record { conn = conn; input = input; output = output }))
awaits_more conn c before steps input output is = by (conn == c) refl
  where
    by : (b : Bool) → conn == c ≡ b → (if b then next_awaited (awaited_at before conn) input output else awaited_at before c) ≡ option_map asked_by (if b then next_forwarded (forwarded c steps) input output else forwarded c steps)
    by true e = ap (λ (k : Option Awaited). next_awaited k input output) (is conn ∙ ap (λ (k : ℕ). option_map asked_by (forwarded k steps)) (eqb-true conn c e)) ∙ awaited-forwarded (forwarded c steps) input output
    by false e = is c

-- a step that moves the core as the table says, or that found no memory
moves_on : (accepts : Accepts) (before after : Proxy) (steps : List Step) (conn : ℕ) (input : ProxyInput) (output : ProxyOutput) → Remembers accepts before steps
    → MayFollow accepts before.policy steps (record { conn = conn; input = input; output = output }) → Moves conn input output before after
    → Remembers accepts after (steps ++ record { conn = conn; input = input; output = output } ∷ [])
moves_on accepts before after steps conn input output knows may moves =
    let step : Step = record { conn = conn; input = input; output = output } in
    let good = keeps accepts before.policy steps conn knows.requests input output may in
    record {
      history = subst (λ (p : List Rule). AllFollow (MayFollow accepts p) [] (steps ++ step ∷ [])) (sym moves.policy) (follow_more (MayFollow accepts before.policy) [] steps step knows.history may);
      kept = subst (λ (p : List Rule). AllFollow (Keeps accepts p) [] (steps ++ step ∷ [])) (sym moves.policy) (follow_more (Keeps accepts before.policy) [] steps step knows.kept good);
      bound = λ c. moves.bound c ∙ bound_more conn c before.bound steps input output knows.bound ∙ sym (fold_push (bound_with c) [] steps step);
      awaits = λ c. moves.awaits c ∙ awaits_more conn c before.awaits steps input output knows.awaits ∙ ap (option_map asked_by) (sym (fold_push (forwarded_with c) None steps step));
      requests = requests_more accepts before.policy steps conn input output knows.requests good.says;
    }

row_follows : (accepts : Accepts) (before : Proxy) (steps : List Step) (conn : ℕ) (input : ProxyInput) → Remembers accepts before steps
    → row_in accepts before conn input ≡ proxy_row accepts before.policy (bound conn steps) (option_map asked_by (forwarded conn steps)) input
row_follows accepts before steps conn input knows =
    ap (λ (hosts : List (List ℕ)). proxy_row accepts before.policy hosts (awaited_at before.awaits conn) input) (knows.bound conn)
    ∙ ap (λ (waits : Option Awaited). proxy_row accepts before.policy (bound conn steps) waits input) (knows.awaits conn)

-- what is remembered before a step is remembered after it, with that step
pub remembers_more : (accepts : Accepts) (before after : Proxy) (steps : List Step) (conn : ℕ) (input : ProxyInput) (output : ProxyOutput)
    → Takes accepts conn input before after output ⊎ Starves before after output → Remembers accepts before steps
    → Remembers accepts after (steps ++ record { conn = conn; input = input; output = output } ∷ [])
remembers_more accepts before after steps conn input output (inl takes) knows =
    moves_on accepts before after steps conn input output knows (inl (takes.row ∙ row_follows accepts before steps conn input knows)) takes.moves
remembers_more accepts before after steps conn input output (inr starves) knows =
    moves_on accepts before after steps conn input output knows (inr starves.nothing) (starved_stays conn input output before after starves.nothing starves.unchanged)

-- a new core remembers nothing
pub remembers_none : (accepts : Accepts) (policy : List Rule) → Remembers accepts (record { policy = policy; bound = []; awaits = [] }) []
remembers_none accepts policy = record { history = tt; kept = tt; bound = λ c. refl; awaits = λ c. refl; requests = λ c whole e. absurd cc }
