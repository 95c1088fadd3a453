-- What an answer of the agent leaves: the keys that are kept of a listing, and nothing that is awaited.
use Rattle.std.proofs.Common.{◌≡◌, ℕ, Bool, true, false, cond, List, [], ◌∷◌, Option, Some, None, Ok, Err, Result, refl, ap, sym, subst, ◌∙◌}
use Rattle.std.specs.Prelude.{filter, ◌==◌}
use Rattle.std.proofs.lemmas.Bool.{cond_both}
use Rattle.sshc_key.specs.declared.error.Error.{Error}
use Rattle.sshc_key.specs.AgentNumbers.{IDENTITIES_ANSWER, SIGN_RESPONSE}
use Rattle.sshc_proxy.specs.declared.listing.Listed.{Listed as Lent}
use Rattle.sshc_proxy.specs.declared.waiting.Awaited.{Awaited}
use Rattle.sshc_proxy.specs.declared.waiting.Awaited.TheVariants as awaited
use Rattle.sshc_proxy.specs.Listing.{Listed, keys_seen, listed_keys, listed_seen}
use Rattle.sshc_proxy_session.specs.declared.bound.Bound.{Bound}
use Rattle.sshc_proxy_session.specs.declared.event.SessionInput.TheVariants as inputs
use Rattle.sshc_proxy_session.specs.declared.event.SessionOutput.{SessionOutput}
use Rattle.sshc_proxy_session.specs.declared.session_policy.SessionRule.{SessionRule}
use Rattle.sshc_proxy_session.specs.SessionTable.{Standing, agent_refused, answer_row, answers, listing_by, listing_row, moved, next_awaited, signature_row}

kept_by : (b : Bool) (x : Lent) (xs : List Lent) → keys_seen (cond b (x ∷ xs) xs) ≡ cond b (listed_seen x ∷ keys_seen xs) (keys_seen xs)
kept_by true x xs = refl
kept_by false x xs = refl

-- the keys that are kept
pub kept_seen : (p : List ℕ → Bool) (keys : List Lent) → keys_seen (filter (λ k. p k.blob.now) keys) ≡ filter (λ k. p k.0) (keys_seen keys)
kept_seen p [] = refl
kept_seen p (k ∷ keys) =
    kept_by (p k.blob.now) k (filter (λ k. p k.blob.now) keys) ∙ ap (λ (ks : List Listed). cond (p k.blob.now) (listed_seen k ∷ ks) ks) (kept_seen p keys)

abbrev Clears : List ℕ → SessionOutput → Type 0
Clears answer output = (last : Option Awaited) → next_awaited last (inputs.Upstream answer) output ≡ None

by_listing : (policy : List SessionRule) (bindings : List Bound) (answer : List ℕ) (keys : Result (List Listed) Error) → Clears answer (listing_by policy bindings keys)
by_listing policy bindings answer (Ok keys) = λ last. refl
by_listing policy bindings answer (Err e) = λ last. refl

clears : (policy : List SessionRule) (bindings : List Bound) (kind : Awaited) (answer : List ℕ) → Clears answer (answer_row policy bindings kind answer)
unfolding listing_row signature_row
clears policy bindings awaited.Listing [] = λ last. refl
clears policy bindings awaited.Listing (number ∷ body) =
    cond_both (number == IDENTITIES_ANSWER) (listing_by policy bindings (listed_keys body)) agent_refused (Clears (number ∷ body)) (λ e. by_listing policy bindings (number ∷ body) (listed_keys body)) (λ e. λ last. refl)
clears policy bindings awaited.Signature [] = λ last. refl
clears policy bindings awaited.Signature (number ∷ body) =
    cond_both (number == SIGN_RESPONSE) (answers (number ∷ body)) agent_refused (Clears (number ∷ body)) (λ e. λ last. refl) (λ e. λ last. refl)

-- after an answer nothing is awaited
pub answer_moves : (policy : List SessionRule) (bindings : List Bound) (awaits : Option Awaited) (kind : Awaited) (answer : List ℕ) (output : SessionOutput) → output ≡ answer_row policy bindings kind answer
    → record { bindings = bindings; awaits = None } ≡ moved (record { bindings = bindings; awaits = awaits }) (inputs.Upstream answer) output
answer_moves policy bindings awaits kind answer output is =
    subst (λ (o : SessionOutput). record { bindings = bindings; awaits = None } ≡ moved (record { bindings = bindings; awaits = awaits }) (inputs.Upstream answer) o) (sym is)
    (ap (λ (a : Option Awaited). let s : Standing = record { bindings = bindings; awaits = a } in s) (sym (clears policy bindings kind answer awaits)))
