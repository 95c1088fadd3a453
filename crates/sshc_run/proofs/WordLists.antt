-- Three or four arguments by their places.
use Rattle.std.proofs.Common.{◌≡◌, ℕ, List, [], ◌∷◌, length, get_or, arith}

pub four_words : (words : List (List ℕ)) (a b c d : List ℕ) → length words ≡ 4 → a ≡ get_or words 0 a → b ≡ get_or words 1 b → c ≡ get_or words 2 c → d ≡ get_or words 3 d → words ≡ a ∷ b ∷ c ∷ d ∷ []
four_words [] a b c d h p q r s = absurd (omega (arith, h))
four_words (v ∷ []) a b c d h p q r s = absurd (omega (arith, h))
four_words (v ∷ w ∷ []) a b c d h p q r s = absurd (omega (arith, h))
four_words (v ∷ w ∷ x ∷ []) a b c d h p q r s = absurd (omega (arith, h))
four_words (v ∷ w ∷ x ∷ y ∷ []) a b c d h p q r s = cc
four_words (v ∷ w ∷ x ∷ y ∷ z ∷ more) a b c d h p q r s = absurd (omega (arith, h))

pub three_words : (words : List (List ℕ)) (a b c : List ℕ) → length words ≡ 3 → a ≡ get_or words 0 a → b ≡ get_or words 1 b → c ≡ get_or words 2 c → words ≡ a ∷ b ∷ c ∷ []
three_words [] a b c h p q r = absurd (omega (arith, h))
three_words (v ∷ []) a b c h p q r = absurd (omega (arith, h))
three_words (v ∷ w ∷ []) a b c h p q r = absurd (omega (arith, h))
three_words (v ∷ w ∷ x ∷ []) a b c h p q r = cc
three_words (v ∷ w ∷ x ∷ y ∷ more) a b c h p q r = absurd (omega (arith, h))
