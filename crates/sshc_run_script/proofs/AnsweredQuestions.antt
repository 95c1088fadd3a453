-- Calls of the signer, with the answers that they get: whatever answers follow, the run after them is the same.
use Rattle.std.proofs.Common.{◌≡◌, List, [], ◌∷◌, ◌++◌, refl, ap, sym, ◌∙◌, append_assoc}
use Rattle.sshc_run_script.specs.Prefixes.{IsFront}
use Rattle.sshc_run_script.proofs.RunNames.{SignCall, Answer, Asking, done, asks, call_of, Makes, MakesFirst, RunOf, after, asked_run, answers_of, asked_on}

pub answers_two : (a b : List SignCall) → answers_of (a ++ b) ≡ answers_of a ++ answers_of b
answers_two [] b = refl
answers_two (call ∷ a) b = ap (λ (answers : List Answer). call.answer ∷ answers) (answers_two a b)

-- this is its result, with the answers that follow, and the calls are kept
pub asked_made : {A : Type 0} {E : Type 0} (wanting : E) (asking : Asking A) (gained : List SignCall) (x : A) (answers : List Answer) (later : A → List Answer → RunOf E) → Makes asking gained x →
    asked_run wanting asking (answers_of gained ++ answers) later ≡ after [] gained (later x answers)
asked_made {A = A} wanting (done y) [] x answers later is = ap (λ (z : A). later z answers) is
asked_made {E = E} wanting (asks asked on) (call ∷ gained) x answers later (is, makes) =
    ap (λ (r : RunOf E). after [] (call_of asked call.answer ∷ []) r) (asked_made wanting (on call.answer) gained x answers later makes)
    ∙ ap (λ (c : SignCall). after [] (c ∷ gained) (later x answers)) (sym is)
asked_made wanting asking gained x answers later never = absurd never

-- if only the first calls were made, no others are kept
pub asked_first : {A : Type 0} {E : Type 0} (wanting : E) (asking : Asking A) (gained : List SignCall) (later : A → List Answer → RunOf E) → ((x : A) → (later x []).calls ≡ []) → MakesFirst asking gained →
    (asked_run wanting asking (answers_of gained) later).calls ≡ gained
asked_first wanting (done y) [] later nothing first = nothing y
asked_first wanting (done y) (call ∷ gained) later nothing never = absurd never
asked_first wanting (asks asked on) [] later nothing first = refl
asked_first wanting (asks asked on) (call ∷ gained) later nothing (is, first) =
    ap (λ (calls : List SignCall). call_of asked call.answer ∷ calls) (asked_first wanting (on call.answer) gained later nothing first) ∙ ap (λ (c : SignCall). c ∷ gained) (sym is)

-- calls of the signer whose result is mapped
pub asked_mapped : {A : Type 0} {B : Type 0} {E : Type 0} (wanting : E) (f : A → B) (asking : Asking A) (answers : List Answer) (later : B → List Answer → RunOf E) →
    asked_run wanting (asked_on f asking) answers later ≡ asked_run wanting asking answers (λ x left. later (f x) left)
asked_mapped wanting f (done x) answers later = refl
asked_mapped wanting f (asks asked on) [] later = refl
asked_mapped {E = E} wanting f (asks asked on) (answer ∷ answers) later = ap (λ (r : RunOf E). after [] (call_of asked answer ∷ []) r) (asked_mapped wanting f (on answer) answers later)

pub front_before : {X : Type 0} (a b c : List X) → IsFront b c → IsFront (a ++ b) (a ++ c)
front_before {X = X} a b c (rest, is) = (rest, ap (λ (list : List X). a ++ list) is ∙ sym (append_assoc a b rest))
