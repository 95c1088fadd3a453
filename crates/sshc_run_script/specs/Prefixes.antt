-- Prefixes of lists.
use Rattle.std.specs.Prelude.{◌≡◌, List, ◌++◌}

abbrev pub IsFront : {X : Type 0} → List X → List X → Type 0
IsFront {X = X} front list = (rest : List X) × (list ≡ front ++ rest)
