-- Tests that are true.
use Rattle.std.proofs.Common.{◌≡◌, ℕ, suc, ◌<◌, ◌≤◌, Bool, true, false, ◌&&◌, List, [], ◌∷◌, length, eqb, if◌then◌else◌, refl, arith}
use Rattle.std.proofs.Math.Dec.{eqb-suc-zero}

pub and_left : (a b : Bool) → (a && b) ≡ true → a ≡ true
and_left true b h = refl
and_left false b h = absurd (cc)

pub and_right : (a b : Bool) → (a && b) ≡ true → b ≡ true
and_right true b h = h
and_right false b h = absurd (cc)

pub and-false : (a : Bool) → (a && false) ≡ false
and-false true = refl
and-false false = refl

pub and-true : (a : Bool) → (a && true) ≡ a
and-true true = refl
and-true false = refl

pub no_length : {A : Type 0} (l : List A) → eqb (length l) 0 ≡ true → l ≡ []
no_length [] h = refl
no_length (x ∷ l) h = let no : eqb (suc (length l)) 0 ≡ false = eqb-suc-zero (length l) in absurd (cc)

pub room_facts : (b : Bool) (window size : ℕ) → (b ≡ true → 0 < size) → (0 < (if b then window else 0) → 0 < size) × ((if b then window else 0) ≤ window)
room_facts true window size h = (λ _. h refl, omega arith)
room_facts false window size h = (λ no. absurd (omega (arith, no)), omega arith)
