-- Salts in a text: lines of 40 hexadecimal digits.
-- All lines are read up to the first that isn't one; the code reads them line by line, and then returns one after the
-- other.
use Rattle.std.specs.Prelude.{ℕ, List, [], ◌∷◌, take, drop, Some, Result, Ok, Err}
use Rattle.hex.specs.Hex.{decode_sized}
use Rattle.sshc_hosts.specs.MatchingLines.{parts_at}
use Rattle.sshc_audit.specs.Salts.{SaltState}

-- a salt, and those after it; no salts from a bad line on
abbrev pub salt_before : {E : Type 0} → Result (List ℕ) E → List (List ℕ) → List (List ℕ)
salt_before (Ok salt) salts = salt ∷ salts
salt_before (Err e) salts = []

-- the salts of these lines, up to the first line that isn't 40 hexadecimal digits
abbrev pub salts_of : List (List ℕ) → List (List ℕ)
salts_of [] = []
salts_of (line ∷ lines) = salt_before (decode_sized line 20) (salts_of lines)

-- the salts of a text
abbrev pub salts_in : List ℕ → List (List ℕ)
salts_in text = salts_of (parts_at 10 text)

-- a list of salts, how many of them were returned, and how often there was none
pub record SaltsHeld : Type 0 where
  pub salts : List (List ℕ)
  pub next : ℕ
  pub faults : ℕ

-- what contracts see of it
abbrev pub state_of : SaltsHeld → SaltState
state_of held = record { given = take held.next held.salts; left = Some (drop held.next held.salts); faults = held.faults }

-- all salts of a text, before the first is returned
abbrev pub all_salts : List ℕ → SaltsHeld
all_salts text = record { salts = salts_in text; next = 0; faults = 0 }
