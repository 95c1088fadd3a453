-- Laws about arguments by their indexes, for this crate and those that use it.
use Rattle.std.proofs.Common.{◌≡◌, ℕ, List, get_or, refl, subst, Bool, true, false}
use Rattle.std.specs.Prelude.{not}
use Rattle.std.specs.Str.{bytes_eq}
use Rattle.std.specs.Cmp.Lexicographic.{same_text}

not_false : (b : Bool) → false ≡ not b → true ≡ b
not_false true h = refl
not_false false h = absurd cc

-- what a test whether two texts differ shows
pub same_word : (a b : List ℕ) → false ≡ not (bytes_eq a b) → a ≡ b
same_word a b is = same_text a b (not_false (bytes_eq a b) is)

-- the argument at an index, by another name
pub at_place : (words : List (List ℕ)) (i : ℕ) (a b : List ℕ) → b ≡ get_or words i b → b ≡ a → a ≡ get_or words i a
at_place words i a b is same = subst (λ (x : List ℕ). x ≡ get_or words i x) same is
