-- The first entry of a host field, and the text after it.
-- The definition is about the whole text; the code finds the first comma or space.
use Rattle.std.specs.Prelude.{ℕ, false, List, ◌∷◌, ◌++◌, Option, Some, None, ◌==◌, ◌≡◌, ◌⊎◌}
use Rattle.std.specs.List.{All}
use Rattle.sshc_hosts.specs.MatchingLines.{parts_at}

-- the text up to its first comma or space, that character, and the rest
pub record CutsEntry (text entry : List ℕ) (mark : ℕ) (rest : List ℕ) : Type 0 where
  pub whole : text ≡ entry ++ mark ∷ rest
  pub no_comma : All (λ b. (b == 44) ≡ false) entry
  pub no_space : All (λ b. (b == 32) ≡ false) entry
  pub ends : (mark ≡ 44) ⊎ (mark ≡ 32)

-- the third field of a line, which is the second part of the text after its first field
abbrev pub second : List (List ℕ) → Option (List ℕ)
second (name ∷ key ∷ later) = Some key
second parts = None

abbrev pub key_behind : Option (List ℕ) → Option (List ℕ)
key_behind (Some rest) = second (parts_at 32 rest)
key_behind None = None
