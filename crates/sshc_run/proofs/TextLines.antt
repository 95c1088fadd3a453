-- The lines of a text, one after another.
use Rattle.std.proofs.Common.{◌≡◌, ℕ, suc, zero, ◌+◌, ◌<◌, Bool, true, false, cond, List, [], ◌∷◌, length, take, drop, get_or, ◌-◌, Some, None, refl, ap, sym, ◌∙◌, arith, length-drop}
use Rattle.std.proofs.lemmas.List.{take_all}
use Rattle.std.specs.Prelude.{◌==◌}
use Rattle.std.specs.List.{slice_split, onto_first}
use Rattle.memchr.specs.Find.{IsFirstByte, is_byte}
use Rattle.sshc_run.specs.Summary.{but_last, whole_lines}
use Rattle.std.proofs.lemmas.Bool.{false_from_ne_true}

onto_some : (x : ℕ) (parts : List (List ℕ)) → 0 < length (onto_first x parts)
onto_some x [] = omega arith
onto_some x (part ∷ parts) = omega arith

either_some : (b : Bool) (x : ℕ) (parts : List (List ℕ)) → 0 < length (cond b ([] ∷ parts) (onto_first x parts))
either_some true x parts = omega arith
either_some false x parts = onto_some x parts

parts_some : (text : List ℕ) → 0 < length (slice_split (λ b. b == 10) text)
parts_some [] = omega arith
parts_some (x ∷ text) = either_some (x == 10) x (slice_split (λ b. b == 10) text)

but_last_next : (part : List ℕ) (parts : List (List ℕ)) → 0 < length parts → but_last (part ∷ parts) ≡ part ∷ but_last parts
but_last_next part [] some = absurd (omega (arith, some))
but_last_next part (next ∷ parts) some = refl

-- without a line feed there is one part
one_part : (text : List ℕ) → ((k : ℕ) → k < length text → (get_or text k 0 == 10) ≡ false) → slice_split (λ b. b == 10) text ≡ text ∷ []
one_part [] none = refl
one_part (x ∷ text) none =
    ap (λ (b : Bool). cond b ([] ∷ slice_split (λ c. c == 10) text) (onto_first x (slice_split (λ c. c == 10) text))) (none 0 (omega arith))
    ∙ ap (onto_first x) (one_part text (λ k lt. none (suc k) (omega arith)))

-- the first part, and the rest
first_part : (text : List ℕ) (i : ℕ) → i < length text → ((k : ℕ) → k < i → (get_or text k 0 == 10) ≡ false) → (get_or text i 0 == 10) ≡ true →
    slice_split (λ b. b == 10) text ≡ take i text ∷ slice_split (λ b. b == 10) (drop (suc i) text)
first_part [] i lt before here = absurd (omega (arith, lt))
first_part (x ∷ text) zero lt before here =
    ap (λ (b : Bool). cond b ([] ∷ slice_split (λ c. c == 10) text) (onto_first x (slice_split (λ c. c == 10) text))) here
first_part (x ∷ text) (suc i) lt before here =
    ap (λ (b : Bool). cond b ([] ∷ slice_split (λ c. c == 10) text) (onto_first x (slice_split (λ c. c == 10) text))) (before 0 (omega arith))
    ∙ ap (onto_first x) (first_part text i (omega (arith, lt)) (λ k less. before (suc k) (omega (arith, less))) here)

pub no_line : (text : List ℕ) → IsFirstByte (is_byte 10) text None → whole_lines text ≡ []
no_line text nowhere = ap but_last (one_part text (λ k lt. false_from_ne_true _ (nowhere k (omega arith) lt)))

pub next_line : (text : List ℕ) (i : ℕ) → IsFirstByte (is_byte 10) text (Some i) →
    whole_lines text ≡ take i text ∷ whole_lines (take (length text - (i + 1)) (drop (i + 1) text))
next_line text i (before, here) =
    let parts : slice_split (λ b. b == 10) text ≡ take i text ∷ slice_split (λ b. b == 10) (drop (suc i) text)
    = first_part text i before.high (λ k lt. false_from_ne_true _ (before.before k (omega arith) lt)) here in
    let next : i + 1 ≡ suc i = omega arith in
    let all : take (length text - (i + 1)) (drop (i + 1) text) ≡ drop (suc i) text
    = take_all (length text - (i + 1)) (drop (i + 1) text) (omega (arith, length-drop (i + 1) text)) ∙ ap (λ (n : ℕ). drop n text) next in
    ap but_last parts ∙ but_last_next (take i text) (slice_split (λ b. b == 10) (drop (suc i) text)) (parts_some (drop (suc i) text))
    ∙ ap (λ (rest : List ℕ). take i text ∷ whole_lines rest) (sym all)
