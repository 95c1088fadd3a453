-- Five arguments by their indexes, and those after them.
use Rattle.std.proofs.Common.{◌≡◌, ℕ, ◌≤◌, List, [], ◌∷◌, length, get_or, take, drop, ◌-◌, ap, sym, ◌∙◌, arith, length-drop}
use Rattle.std.proofs.lemmas.List.{take_all}

front_words : (words : List (List ℕ)) (a b c d e : List ℕ) → 5 ≤ length words → a ≡ get_or words 0 a → b ≡ get_or words 1 b → c ≡ get_or words 2 c → d ≡ get_or words 3 d → e ≡ get_or words 4 e
    → words ≡ a ∷ b ∷ c ∷ d ∷ e ∷ drop 5 words
front_words [] a b c d e h p q r s t = absurd (omega (arith, h))
front_words (v ∷ []) a b c d e h p q r s t = absurd (omega (arith, h))
front_words (v ∷ w ∷ []) a b c d e h p q r s t = absurd (omega (arith, h))
front_words (v ∷ w ∷ x ∷ []) a b c d e h p q r s t = absurd (omega (arith, h))
front_words (v ∷ w ∷ x ∷ y ∷ []) a b c d e h p q r s t = absurd (omega (arith, h))
front_words (v ∷ w ∷ x ∷ y ∷ z ∷ more) a b c d e h p q r s t = cc

behind : (words : List (List ℕ)) → take (length words - 5) (drop 5 words) ≡ drop 5 words
behind words = take_all (length words - 5) (drop 5 words) (omega (arith, length-drop 5 words))

pub five_words : (words : List (List ℕ)) (a b c d e : List ℕ) → 5 ≤ length words → a ≡ get_or words 0 a → b ≡ get_or words 1 b → c ≡ get_or words 2 c → d ≡ get_or words 3 d → e ≡ get_or words 4 e
    → words ≡ a ∷ b ∷ c ∷ d ∷ e ∷ take (length words - 5) (drop 5 words)
five_words words a b c d e h p q r s t = front_words words a b c d e h p q r s t ∙ ap (λ (more : List (List ℕ)). a ∷ b ∷ c ∷ d ∷ e ∷ more) (sym (behind words))
