-- The names in a list: the parts between its commas, without the empty ones (RFC 4251, section 5).
-- The parts of the whole text at once; the code reads from comma to comma.
use Rattle.std.specs.Prelude.{ℕ, Bool, List, ◌∷◌, length, nat_lt, ◌==◌, filter}
use Rattle.std.specs.List.{slice_split}
use Rattle.sshc_wire.specs.declared.error.WireError.{WireError}
use Rattle.sshc_wire.specs.Reads.{Reader, text_at}
use Rattle.sshc_wire.specs.Format.{made_at}

abbrev pub is_comma : ℕ → Bool
is_comma b = b == 44

abbrev pub is_name : List ℕ → Bool
is_name bytes = nat_lt 0 (length bytes)

abbrev pub behind_comma : List ℕ → List ℕ
behind_comma name = 44 ∷ name

unfoldable pub names_in : List ℕ → List (List ℕ)
names_in text = filter is_name (slice_split is_comma text)

unfoldable pub names_at : Reader WireError (List (List ℕ))
names_at bytes = made_at names_in text_at bytes
