-- What a core keeps after each kind of output.
use Rattle.std.proofs.Common.{◌≡◌, ℕ, List, [], ◌∷◌, ◌++◌, Option, Some, None, Ok, Err, Result, refl, ap, sym, subst, ◌∙◌, eqb, inl, inr}
use Rattle.std.specs.Prelude.{if◌then◌else◌, ◌==◌, IfOk}
use Rattle.std.proofs.lemmas.Bool.{cases_eq, cond-true, cond-false, cond_both, eq-eqb, ne_eqb}
use Rattle.sshc_key.specs.declared.error.Error.{Error}
use Rattle.sshc_key.specs.AgentNumbers.{IDENTITIES_ANSWER, SIGN_RESPONSE}
use Rattle.sshc_wire.specs.declared.error.NoMemory.{NoMemory}
use Rattle.sshc_wire.specs.Wire.{string_text, u32_text}
use Rattle.sshc_proxy.specs.declared.input.ProxyInput.{ProxyInput}
use Rattle.sshc_proxy.specs.declared.input.ProxyInput.TheVariants as inputs
use Rattle.sshc_proxy.specs.declared.input.ProxyOutput.{ProxyOutput}
use Rattle.sshc_proxy.specs.declared.input.ProxyOutput.TheVariants as outputs
use Rattle.sshc_proxy.specs.declared.waiting.Awaited.{Awaited}
use Rattle.sshc_proxy.specs.declared.waiting.Awaited.TheVariants as awaited
use Rattle.sshc_proxy.specs.Policy.{Rule}
use Rattle.sshc_proxy.specs.Listing.{Listed, listed_keys}
use Rattle.sshc_proxy.specs.Binding.{Binding, binding_of}
use Rattle.sshc_proxy.specs.ProxyTable.{Follows, Proxy, Moves, answer_row, answers, asked_by, awaited_at, bound_after, bound_at, fails, forwards, host_of, listing_by, listing_row, signature_row, succeeds}

-- ---- SUCCESS binds, FAILURE doesn't

failure_binds_none : (hosts : List (List ℕ)) (whole : List ℕ) → hosts ≡ bound_after hosts whole (string_text (5 ∷ []))
unfolding bound_after string_text u32_text
failure_binds_none hosts whole = refl

success_binds : (hosts : List (List ℕ)) (whole : List ℕ) → bound_after hosts whole (string_text (6 ∷ [])) ≡ hosts ++ host_of (binding_of whole)
unfolding bound_after string_text u32_text
success_binds hosts whole = refl

-- ---- what stays

-- a value that stays at each number
stays_at : {A : Type 0} (conn c : ℕ) (f : ℕ → A) (x : A) → f conn ≡ x → f c ≡ (if conn == c then x else f c)
stays_at conn c f x e = elim (cases_eq conn c) [
  | inl p ↦ ap f (sym p) ∙ e ∙ sym (cond-true (eqb conn c) x (f c) (eq-eqb conn c p))
  | inr n ↦ sym (cond-false (eqb conn c) x (f c) (ne_eqb conn c n))
]

pub fails_stay : (conn : ℕ) (whole : List ℕ) (s : Proxy) → Moves conn (inputs.Frame whole) fails s s
fails_stay conn whole s = record {
  policy = refl;
  bound = λ c. stays_at conn c (bound_at s.bound) _ (failure_binds_none (bound_at s.bound conn) whole);
  awaits = λ c. stays_at conn c (awaited_at s.awaits) _ refl;
}

-- FAILURE, or no memory
pub refuses : (row : ProxyOutput) (conn : ℕ) (whole : List ℕ) (s : Proxy) (result : Result ProxyOutput NoMemory) → row ≡ fails → IfOk result (λ output. output ≡ fails) → Follows row conn (inputs.Frame whole) s s result
refuses row conn whole s (Ok output) is says = (says ∙ sym is, subst (λ (o : ProxyOutput). Moves conn (inputs.Frame whole) o s s) (sym says) (fails_stay conn whole s))
refuses row conn whole s (Err e) is says = refl

pub frame_ignored : (conn : ℕ) (whole : List ℕ) (s : Proxy) → Moves conn (inputs.Frame whole) outputs.Nothing s s
frame_ignored conn whole s = record {
  policy = refl;
  bound = λ c. stays_at conn c (bound_at s.bound) _ refl;
  awaits = λ c. stays_at conn c (awaited_at s.awaits) _ refl;
}

pub answer_ignored : (conn : ℕ) (answer : List ℕ) (s : Proxy) → awaited_at s.awaits conn ≡ None → Moves conn (inputs.Upstream answer) outputs.Nothing s s
answer_ignored conn answer s none = record {
  policy = refl;
  bound = λ c. stays_at conn c (bound_at s.bound) _ refl;
  awaits = λ c. stays_at conn c (awaited_at s.awaits) _ none;
}

starved_same : (conn : ℕ) (input : ProxyInput) (s : Proxy) → Moves conn input outputs.NoMemory s s
starved_same conn input s = record {
  policy = refl;
  bound = λ c. stays_at conn c (bound_at s.bound) _ refl;
  awaits = λ c. stays_at conn c (awaited_at s.awaits) _ refl;
}

pub starved_stays : (conn : ℕ) (input : ProxyInput) (output : ProxyOutput) (before after : Proxy) → output ≡ outputs.NoMemory → after ≡ before → Moves conn input output before after
starved_stays conn input output before after none same =
    subst (λ (s : Proxy). Moves conn input output before s) (sym same) (subst (λ (o : ProxyOutput). Moves conn input o before before) (sym none) (starved_same conn input before))

-- ---- what moves

pub forwards_moves : (conn : ℕ) (kind : Awaited) (whole : List ℕ) (before after : Proxy) → asked_by whole ≡ kind → after.policy ≡ before.policy → after.bound ≡ before.bound
    → ((c : ℕ) → awaited_at after.awaits c ≡ (if conn == c then Some kind else awaited_at before.awaits c)) → Moves conn (inputs.Frame whole) (forwards whole) before after
forwards_moves conn kind whole before after asks policy bound awaits = record {
  policy = policy;
  bound = λ c. ap (λ (b : List (ℕ × List (List ℕ))). bound_at b c) bound ∙ stays_at conn c (bound_at before.bound) _ refl;
  awaits = λ c. awaits c ∙ ap (λ (k : Awaited). if conn == c then Some k else awaited_at before.awaits c) (sym asks);
}

pub succeeds_moves : (conn : ℕ) (whole : List ℕ) (binding : Binding) (before after : Proxy) → binding_of whole ≡ Some binding → after.policy ≡ before.policy → after.awaits ≡ before.awaits
    → ((c : ℕ) → bound_at after.bound c ≡ (if conn == c then bound_at before.bound conn ++ binding.host_key ∷ [] else bound_at before.bound c)) → Moves conn (inputs.Frame whole) succeeds before after
succeeds_moves conn whole binding before after binds policy awaits bound = record {
  policy = policy;
  bound = λ c. bound c ∙ ap (λ (hosts : List (List ℕ)). if conn == c then hosts else bound_at before.bound c)
      (sym (success_binds (bound_at before.bound conn) whole ∙ ap (λ (b : Option Binding). bound_at before.bound conn ++ host_of b) binds));
  awaits = λ c. ap (λ (a : List (ℕ × Awaited)). awaited_at a c) awaits ∙ stays_at conn c (awaited_at before.awaits) _ refl;
}

pub closes : (conn : ℕ) (before after : Proxy) → after.policy ≡ before.policy → ((c : ℕ) → bound_at after.bound c ≡ (if conn == c then [] else bound_at before.bound c))
    → ((c : ℕ) → awaited_at after.awaits c ≡ (if conn == c then None else awaited_at before.awaits c)) → Moves conn inputs.Close outputs.Nothing before after
closes conn before after policy bound awaits = record { policy = policy; bound = bound; awaits = awaits }

-- ---- an answer

abbrev IsAnswering : ProxyOutput → Type 0
IsAnswering output = (frame : List ℕ) × (output ≡ outputs.Answer frame)

fails_answers : IsAnswering fails
fails_answers = (_, refl)

by_listing : (policy : List Rule) (hosts : List (List ℕ)) (keys : Result (List Listed) Error) → IsAnswering (listing_by policy hosts keys)
by_listing policy hosts (Ok keys) = (_, refl)
by_listing policy hosts (Err e) = (_, refl)

pub answer_answers : (policy : List Rule) (hosts : List (List ℕ)) (kind : Awaited) (answer : List ℕ) → IsAnswering (answer_row policy hosts kind answer)
unfolding listing_row signature_row
answer_answers policy hosts awaited.Listing [] = fails_answers
answer_answers policy hosts awaited.Listing (number ∷ body) =
    cond_both (number == IDENTITIES_ANSWER) (listing_by policy hosts (listed_keys body)) fails IsAnswering (λ e. by_listing policy hosts (listed_keys body)) (λ e. fails_answers)
answer_answers policy hosts awaited.Signature [] = fails_answers
answer_answers policy hosts awaited.Signature (number ∷ body) =
    cond_both (number == SIGN_RESPONSE) (answers (number ∷ body)) fails IsAnswering (λ e. (_, refl)) (λ e. fails_answers)

answered_by : (conn : ℕ) (answer : List ℕ) (output : ProxyOutput) (before after : Proxy) → IsAnswering output → after.policy ≡ before.policy → after.bound ≡ before.bound
    → ((c : ℕ) → awaited_at after.awaits c ≡ (if conn == c then None else awaited_at before.awaits c)) → Moves conn (inputs.Upstream answer) output before after
answered_by conn answer (outputs.Answer frame) before after is policy bound awaits = record {
  policy = policy;
  bound = λ c. ap (λ (b : List (ℕ × List (List ℕ))). bound_at b c) bound ∙ stays_at conn c (bound_at before.bound) _ refl;
  awaits = awaits;
}
answered_by conn answer (outputs.Forward frame) before after is policy bound awaits = absurd cc
answered_by conn answer outputs.Nothing before after is policy bound awaits = absurd cc
answered_by conn answer outputs.NoMemory before after is policy bound awaits = absurd cc

pub answer_moves : (conn : ℕ) (kind : Awaited) (answer : List ℕ) (before after : Proxy) → after.policy ≡ before.policy → after.bound ≡ before.bound
    → ((c : ℕ) → awaited_at after.awaits c ≡ (if conn == c then None else awaited_at before.awaits c))
    → Moves conn (inputs.Upstream answer) (answer_row before.policy (bound_at before.bound conn) kind answer) before after
answer_moves conn kind answer before after policy bound awaits =
    answered_by conn answer (answer_row before.policy (bound_at before.bound conn) kind answer) before after (answer_answers before.policy (bound_at before.bound conn) kind answer) policy bound awaits
