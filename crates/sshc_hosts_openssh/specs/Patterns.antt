-- Patterns of host names (OpenSSH's ssh_config(5), "PATTERNS", to which sshd(8) refers in "SSH_KNOWN_HOSTS FILE
-- FORMAT").
-- A `*` is tried at every ending of a name; the code goes over the name once for each `*`.
use Rattle.std.specs.Prelude.{ℕ, Bool, true, false, ◌&&◌, ◌||◌, ◌==◌, if◌then◌else◌, List, [], ◌∷◌}
use Rattle.std.specs.List.{list_any}
use Rattle.std.specs.Char.{to_ascii_lowercase}

-- the list and what is left of it after its first element, its first two, and so on down to the empty list
abbrev pub endings : List ℕ → List (List ℕ)
endings [] = [] ∷ []
endings (c ∷ name) = (c ∷ name) ∷ endings name

-- a byte of a pattern that isn't `*` fits a byte of a name in lower case: `?` fits any, a letter its lower case
abbrev pub fits : ℕ → ℕ → Bool
fits p c = p == 63 || to_ascii_lowercase p == c

-- the pattern matches the whole name: `*` stands for any number of bytes, none too
abbrev pub matches : List ℕ → List ℕ → Bool
matches [] [] = true
matches [] (c ∷ name) = false
matches (p ∷ pattern) [] = p == 42 && matches pattern []
matches (p ∷ pattern) (c ∷ name) =
    if p == 42 then list_any (λ rest. matches pattern rest) (endings (c ∷ name)) else fits p c && matches pattern name
