-- A text to which something was added at the end.
use Rattle.std.specs.Prelude.{◌≡◌, ℕ, List, ◌++◌}

abbrev pub Extends : List ℕ → List ℕ → Type 0
Extends old new = (added : List ℕ) × (new ≡ old ++ added)
