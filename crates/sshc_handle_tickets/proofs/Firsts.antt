-- The first element of a list that passes a test, found by its place.
use Rattle.std.proofs.Common.{◌≡◌, refl, ℕ, zero, suc, ◌<◌, ◌≤◌, Bool, true, false, List, [], ◌∷◌, length, take, Some, None, ap, slice_index_or, arith}
use Rattle.std.proofs.lemmas.List.{take_all}
use Rattle.std.specs.List.{list_any, remove}
use Rattle.sshc_wire.specs.CasesLaws.{neither}
use Rattle.sshc_handle_tickets.specs.Tickets.{first_of, without_first}

-- none before this place passes
abbrev pub IsPassed : {A : Type 0} → (A → Bool) → List A → ℕ → Type 0
IsPassed test xs at = list_any test (take at xs) ≡ false

pub first_at : {A : Type 0} (test : A → Bool) (xs : List A) (at : ℕ) (d : A) → at < length xs → IsPassed test xs at → test (slice_index_or xs at d) ≡ true →
    (first_of test xs ≡ Some (slice_index_or xs at d)) × (without_first test xs ≡ remove xs at)
unfolding first_of without_first
first_at test [] at d small passed passes = elim small [ ]
first_at test (x ∷ xs) zero d small passed passes = rw passes (refl, refl)
first_at test (x ∷ xs) (suc at) d small passed passes =
    let (miss, later) = neither (test x) (list_any test (take at xs)) passed in
    let (found, cut) = first_at test xs at d (omega (arith, small)) later passes in
    rw miss (found, ap (λ ys. x ∷ ys) cut)

pub passed_on : {A : Type 0} (test : A → Bool) (xs : List A) (at : ℕ) (d : A) → at < length xs → IsPassed test xs at → test (slice_index_or xs at d) ≡ false →
    IsPassed test xs (suc at)
passed_on test [] at d small passed no_test = elim small [ ]
passed_on test (x ∷ xs) zero d small passed no_test = rw no_test refl
passed_on test (x ∷ xs) (suc at) d small passed no_test =
    let (miss, later) = neither (test x) (list_any test (take at xs)) passed in
    rw miss (passed_on test xs at d (omega (arith, small)) later no_test)

pub none_first : {A : Type 0} (test : A → Bool) (xs : List A) → list_any test xs ≡ false → (first_of test xs ≡ None) × (without_first test xs ≡ xs)
unfolding first_of without_first
none_first test [] passed = (refl, refl)
none_first test (x ∷ xs) passed =
    let (miss, later) = neither (test x) (list_any test xs) passed in
    let (none, same) = none_first test xs later in
    rw miss (none, ap (λ ys. x ∷ ys) same)

-- ---- each half apart, as loops end

pub first_found : {A : Type 0} (test : A → Bool) (xs : List A) (at : ℕ) (d : A) → at < length xs → IsPassed test xs at → test (slice_index_or xs at d) ≡ true →
    first_of test xs ≡ Some (slice_index_or xs at d)
first_found test xs at d small passed passes = (first_at test xs at d small passed passes).0

pub first_cut : {A : Type 0} (test : A → Bool) (xs : List A) (at : ℕ) (d : A) → at < length xs → IsPassed test xs at → test (slice_index_or xs at d) ≡ true →
    without_first test xs ≡ remove xs at
first_cut test xs at d small passed passes = (first_at test xs at d small passed passes).1

all_passed : {A : Type 0} (test : A → Bool) (xs : List A) (at : ℕ) → length xs ≤ at → IsPassed test xs at → list_any test xs ≡ false
all_passed test xs at past passed = rw (take_all at xs past) at passed

pub none_found : {A : Type 0} (test : A → Bool) (xs : List A) (at : ℕ) → length xs ≤ at → IsPassed test xs at → first_of test xs ≡ None
none_found test xs at past passed = (none_first test xs (all_passed test xs at past passed)).0

pub none_cut : {A : Type 0} (test : A → Bool) (xs : List A) (at : ℕ) → length xs ≤ at → IsPassed test xs at → without_first test xs ≡ xs
none_cut test xs at past passed = (none_first test xs (all_passed test xs at past passed)).1
