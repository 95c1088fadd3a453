-- The parts of a list at a byte, by the index of the first such byte.
use Rattle.std.proofs.Common.{◌≡◌, ℕ, ◌+◌, ◌<◌, ◌≤◌, Bool, true, false, cond, List, [], ◌∷◌, length, take, drop, Some, None, refl, ap, sym, ◌∙◌, arith, nat_lt}
use Rattle.std.specs.Prelude.{position}
use Rattle.std.specs.List.{slice_split, position_or_len, before_first, after_first, onto_first, slice_range}
use Rattle.std.proofs.lemmas.List.Splits.{slice_split_first, slice_split-cons_no}
use Rattle.std.proofs.lemmas.Bool.Decides.{nat_tests}
use Rattle.std.proofs.lemmas.Bool.{eqb-true}
use Rattle.std.proofs.lemmas.List.Quantifiers.{position-Some}
use Rattle.std.proofs.lemmas.Str.{IsCharBoundary-before_ascii, IsCharBoundary-after_ascii}
use Rattle.std.specs.Str.{IsCharBoundary, IsUtf8}
use Rattle.std.proofs.Common.{get_or}
use Rattle.std.specs.Prelude.{◌==◌}

some_is : (b : Bool) (n i : ℕ) → cond b (Some n) None ≡ Some i → (b ≡ true) × (n ≡ i)
some_is true n i h = (refl, cc)
some_is false n i h = let e : None ≡ Some i = h in cc

none_is : (b : Bool) (n : ℕ) → cond b (Some n) None ≡ None → b ≡ false
none_is true n h = let e : Some n ≡ None = h in cc
none_is false n h = refl

pub split_first : (p : ℕ → Bool) (xs : List ℕ) (i : ℕ) → position p xs ≡ Some i → slice_split p xs ≡ take i xs ∷ slice_split p (drop (i + 1) xs)
split_first p xs i h =
    let is : (nat_lt (position_or_len p xs) (length xs) ≡ true) × (position_or_len p xs ≡ i) = some_is (nat_lt (position_or_len p xs) (length xs)) (position_or_len p xs) i h in
    let lt : position_or_len p xs < length xs = grind (arith, nat_tests, is.0) in
    let first : slice_split p xs ≡ before_first p xs ∷ slice_split p (after_first p xs) = slice_split_first p xs 0 lt in
    first ∙ ap (λ n. take n xs ∷ slice_split p (drop (n + 1) xs)) is.1

whole_case : (p : ℕ → Bool) (x : ℕ) (xs : List ℕ) (b : Bool) → p x ≡ b → length (x ∷ xs) ≤ position_or_len p (x ∷ xs) → (length xs ≤ position_or_len p xs → slice_split p xs ≡ xs ∷ []) → slice_split p (x ∷ xs) ≡ (x ∷ xs) ∷ []
whole_case p x xs true e h later = absurd (let z = rw e at h in omega (arith, z))
whole_case p x xs false e h later = slice_split-cons_no p x xs e ∙ ap (onto_first x) (later (let z = rw e at h in omega (arith, z)))

whole_by : (p : ℕ → Bool) (xs : List ℕ) → length xs ≤ position_or_len p xs → slice_split p xs ≡ xs ∷ []
whole_by p [] h = refl
whole_by p (x ∷ xs) h = whole_case p x xs (p x) refl h (whole_by p xs)

pub split_whole : (p : ℕ → Bool) (xs : List ℕ) → position p xs ≡ None → slice_split p xs ≡ xs ∷ []
split_whole p xs h =
    let no : nat_lt (position_or_len p xs) (length xs) ≡ false = none_is (nat_lt (position_or_len p xs) (length xs)) (position_or_len p xs) h in
    whole_by p xs (grind (arith, nat_tests, no))

-- the first part and the rest, by the index of the first such byte
pub split_parts : (p : ℕ → Bool) (xs : List ℕ) (i : ℕ) (front rest : List ℕ) → Some i ≡ position p xs → front ≡ slice_range xs 0 i → rest ≡ drop (i + 1) xs → slice_split p xs ≡ front ∷ slice_split p rest
split_parts p xs i front rest h is_front is_rest =
    let whole : slice_range xs 0 i ≡ take i xs = ap (λ n. take n xs) (omega arith) in
    let parts : slice_split p xs ≡ take i xs ∷ slice_split p (drop (i + 1) xs) = split_first p xs i (sym h) in
    let same : front ≡ take i xs = is_front ∙ whole in
    rw (same, is_rest) parts

-- a text may be cut right before and right after the first such byte, if that byte is ASCII
first_byte : (at i : ℕ) (xs : List ℕ) → at < 128 → Some i ≡ position (λ b. b == at) xs → (i < length xs) × (get_or xs i 0 < 128)
first_byte at i xs ascii h =
    let (within, is, before) = position-Some (λ b. b == at) xs i 0 (sym h) in
    let same : get_or xs i 0 ≡ at = eqb-true (get_or xs i 0) at is in
    (within, omega arith)

pub boundary_before : (at i : ℕ) (xs : List ℕ) → at < 128 → Some i ≡ position (λ b. b == at) xs → IsCharBoundary xs i
boundary_before at i xs ascii h = let (within, low) = first_byte at i xs ascii h in IsCharBoundary-before_ascii xs i within low

pub boundary_after : (at i : ℕ) (xs : List ℕ) → IsUtf8 xs → at < 128 → Some i ≡ position (λ b. b == at) xs → IsCharBoundary xs (i + 1)
boundary_after at i xs text ascii h = let (within, low) = first_byte at i xs ascii h in IsCharBoundary-after_ascii xs i text within low
