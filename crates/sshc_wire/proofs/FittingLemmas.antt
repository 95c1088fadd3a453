-- A fact on each element, once all were seen.
use Rattle.std.proofs.Common.{ℕ, ◌≤◌, List, length, take, subst}
use Rattle.std.specs.List.{All}
use Rattle.std.proofs.lemmas.List.{take_all}

pub all_taken : {X : Type 0} (P : X → Type 0) (xs : List X) (n : ℕ) → length xs ≤ n → All P (take n xs) → All P xs
all_taken {X} P xs n all h = subst (λ (ys : List X). All P ys) (take_all n xs all) h
