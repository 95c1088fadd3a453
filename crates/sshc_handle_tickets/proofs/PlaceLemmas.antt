-- Pairs of a number and a place, in their order.
use Rattle.std.proofs.Common.{◌≡◌, refl, ap, subst, ℕ, ◌≤◌, arith, Bool, true, false, nat_eq, ◌&&◌, ◌||◌, not, List, [], ◌∷◌, ◌∙◌, Some, cond}
use Rattle.std.proofs.lemmas.Bool.Decides.{nat_tests}
use Rattle.std.specs.BTreeSet.{IsKeyRangeOf}
use Rattle.std.specs.declared.ops.Bound.TheVariants.{Included, Unbounded}
use Rattle.std.specs.Ordering.{is_eq, is_gt}
use Rattle.std.specs.BTreeSet.{BTreeSet, contains}
use Rattle.sshc_handle_tickets.specs.Places.{place_cmp, is_this, stands, IsAt}

pub same_place : (n a m b : ℕ) → is_eq (place_cmp (n, a) (m, b)) ≡ nat_eq n m && nat_eq a b
same_place n a m b = grind (arith, nat_tests)

pub from_start : (n b : ℕ) → is_gt (place_cmp (n, 0) (n, b)) ≡ false
from_start n b = grind (arith, nat_tests)

pub not_later : (n a b : ℕ) → is_gt (place_cmp (n, a) (n, b)) ≡ false → a ≤ b
not_later n a b h = grind (arith, nat_tests, h)

pub between : (n k a p : ℕ) → is_gt (place_cmp (n, 0) (k, a)) ≡ false → is_gt (place_cmp (k, a) (n, p)) ≡ false → k ≡ n
between n k a p above below = grind (arith, nat_tests, above, below)

pub or_true : (b x : Bool) → cond b true x ≡ b || x
or_true true x = refl
or_true false x = refl

pub and_not : (b x : Bool) → cond b false x ≡ not b && x
and_not true x = refl
and_not false x = refl

-- ---- a place that is noted, and one that is forgotten

pub noted : (old new : BTreeSet (ℕ × ℕ)) (number place n p : ℕ) → contains place_cmp new (n, p) ≡ cond (is_eq (place_cmp (number, place) (n, p))) true (contains place_cmp old (n, p)) →
    stands new n p ≡ nat_eq number n && nat_eq place p || stands old n p
noted old new number place n p updated = updated ∙ or_true (is_eq (place_cmp (number, place) (n, p))) (stands old n p) ∙ ap (λ b. b || stands old n p) (same_place number place n p)

pub kept : (old new : BTreeSet (ℕ × ℕ)) (number place n p : ℕ) → contains place_cmp new (n, p) ≡ cond (is_eq (place_cmp (number, place) (n, p))) true (contains place_cmp old (n, p)) → is_this (Some number) place n p ≡ false →
    stands new n p ≡ stands old n p
kept old new number place n p updated bad = noted old new number place n p updated ∙ ap (λ b. b || stands old n p) bad

pub forgotten : (old new : BTreeSet (ℕ × ℕ)) (number place n p : ℕ) → contains place_cmp new (n, p) ≡ cond (is_eq (place_cmp (number, place) (n, p))) false (contains place_cmp old (n, p)) →
    stands new n p ≡ not (nat_eq number n && nat_eq place p) && stands old n p
forgotten old new number place n p updated = updated ∙ and_not (is_eq (place_cmp (number, place) (n, p))) (stands old n p) ∙ ap (λ b. not b && stands old n p) (same_place number place n p)

by_case : {P : Type 0} (b : Bool) → (b ≡ true → P) → (b ≡ false → P) → P
by_case true when_true when_false = when_true refl
by_case false when_true when_false = when_false refl

differ : (k n : ℕ) → nat_eq k n ≡ false → k ≡ n → ⊥
differ k n apart same = grind (arith, nat_tests, apart, same)

-- ---- the first pair that is not before a number

pub found : (places : BTreeSet (ℕ × ℕ)) (number : ℕ) (k : ℕ × ℕ) (t : List (ℕ × ℕ)) → IsKeyRangeOf place_cmp (Included (number, 0)) Unbounded places (k ∷ t) → k.0 ≡ number → IsAt (stands places number) k.1
found places number k t range same =
    record {
      passes = subst (λ n. stands places n k.1 ≡ true) same range.1.1;
      least = λ p h. not_later number k.1 p (subst (λ n. is_gt (place_cmp (n, k.1) (number, p)) ≡ false) same (range.2 (number, p) (from_start number p, tt) h));
    }

pub other : (places : BTreeSet (ℕ × ℕ)) (number : ℕ) (k : ℕ × ℕ) (t : List (ℕ × ℕ)) → IsKeyRangeOf place_cmp (Included (number, 0)) Unbounded places (k ∷ t) → nat_eq k.0 number ≡ false → (p : ℕ) → stands places number p ≡ false
other places number k t range apart p = by_case (stands places number p) (λ h. absurd (differ k.0 number apart (between number k.0 k.1 p range.1.0.0 (range.2 (number, p) (from_start number p, tt) h)))) (λ h. h)

pub none : (places : BTreeSet (ℕ × ℕ)) (number : ℕ) → IsKeyRangeOf place_cmp (Included (number, 0)) Unbounded places [] → (p : ℕ) → stands places number p ≡ false
none places number range p = range.5 refl (number, p) (from_start number p, tt)
