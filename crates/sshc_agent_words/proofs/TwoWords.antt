-- Two arguments by their indexes.
use Rattle.std.proofs.Common.{◌≡◌, ℕ, List, [], ◌∷◌, length, get_or, subst, arith}

-- the argument at an index, by another name
pub at_place : (words : List (List ℕ)) (i : ℕ) (a b : List ℕ) → b ≡ get_or words i b → b ≡ a → a ≡ get_or words i a
at_place words i a b is same = subst (λ (x : List ℕ). x ≡ get_or words i x) same is

pub two_words : (words : List (List ℕ)) (a b : List ℕ) → length words ≡ 2 → a ≡ get_or words 0 a → b ≡ get_or words 1 b → words ≡ a ∷ b ∷ []
two_words [] a b h p q = absurd (omega (arith, h))
two_words (v ∷ []) a b h p q = absurd (omega (arith, h))
two_words (v ∷ w ∷ []) a b h p q = cc
two_words (v ∷ w ∷ x ∷ more) a b h p q = absurd (omega (arith, h))
