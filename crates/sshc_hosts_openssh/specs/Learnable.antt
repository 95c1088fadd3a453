-- Hosts whose key may be added to a known hosts file: a name or an address, and nothing that a reader takes for a pattern, a
-- list, a hash, a mark, a comment or another port.
use Rattle.std.specs.Prelude.{ℕ, Bool, false, ◌||◌, ◌==◌, List, [], ◌∷◌}
use Rattle.std.specs.List.{list_all}
use Rattle.std.specs.Char.{is_ascii_alphanumeric}

-- a letter, a digit, or one of `.`, `-`, `_`, of `:` for IPv6 and `%` for its zones
abbrev pub is_host_byte : ℕ → Bool
is_host_byte b = is_ascii_alphanumeric b || b == 46 || b == 45 || b == 95 || b == 58 || b == 37

abbrev pub is_learnable : List ℕ → Bool
is_learnable [] = false
is_learnable (b ∷ host) = list_all is_host_byte (b ∷ host)
