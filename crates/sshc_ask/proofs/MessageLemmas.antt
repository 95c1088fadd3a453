-- Messages after the room for their length.
use Rattle.std.proofs.Common.{◌≡◌, ℕ, ◌-◌, List, length, drop}
use Rattle.std.proofs.lemmas.List.{length-drop}

-- what follows the first four bytes
pub behind_four : (bytes : List ℕ) → length (drop 4 bytes) ≡ length bytes - 4
behind_four bytes = length-drop 4 bytes
