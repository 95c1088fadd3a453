-- Dropping the lines of a known hosts text that repeat an earlier line.
-- Each part is compared with all earlier ones; the code keeps a set.
use Rattle.std.specs.Prelude.{◌≡◌, ℕ, Bool, false, ◌&&◌, List, [], ◌∷◌, ◌++◌, Option, Some, None, if◌then◌else◌, bytes_eq}
use mathlib.Core.Bool.{beq}
use Rattle.std.specs.List.{list_any}
use Rattle.std.specs.HashSet.{HashSet, contains}
use denote.Ref.{Bor}
use Rattle.sshc_hosts.specs.MatchingLines.{is_revoked, parts_at}
use Rattle.sshc_audit.specs.Lines.{Line, line_of}
use Rattle.sshc_audit.specs.Rewriting.{Change}

-- two lines with the same mark, host field and third field
abbrev pub says_same : Line → Line → Bool
says_same line other = (beq (is_revoked line.mark) (is_revoked other.mark) && bytes_eq line.host other.host) && bytes_eq line.key other.key

abbrev pub both_say : Option Line → Option Line → Bool
both_say (Some line) (Some other) = says_same line other
both_say line other = false

-- the part is a line that repeats an earlier part
abbrev pub is_doubled : List (List ℕ) → List ℕ → Bool
is_doubled earlier part = list_any (λ other. both_say (line_of other) (line_of part)) earlier

-- the changes of the parts after these earlier ones
abbrev pub undoubled : List (List ℕ) → List (List ℕ) → List Change
undoubled earlier [] = []
undoubled earlier (part ∷ parts) = (part, if is_doubled earlier part then None else Some part) ∷ undoubled (earlier ++ part ∷ []) parts

-- each line that repeats an earlier line is dropped
abbrev pub drops_doubled : List ℕ → List Change
drops_doubled text = undoubled [] (parts_at 10 text)

-- ---- the set that the code keeps

-- the compared fields of a line, as the set keeps them
abbrev pub SeenEntry : Type 0
SeenEntry = Bool × (Bor (List ℕ)) × (Bor (List ℕ))

abbrev pub says : SeenEntry → Option Line → Bool
says seen_entry None = false
says seen_entry (Some line) = (beq (is_revoked line.mark) seen_entry.0 && bytes_eq line.host seen_entry.1.now) && bytes_eq line.key seen_entry.2.now

-- two of these are equal
abbrev pub same_said : SeenEntry → SeenEntry → Bool
same_said a b = (beq a.0 b.0 && bytes_eq a.1.now b.1.now) && bytes_eq a.2.now b.2.now

-- the set has the compared fields of each of these earlier parts, and no others
abbrev pub IsSeen : {S : Type 0} → HashSet SeenEntry S → List (List ℕ) → Type 0
IsSeen seen earlier =
    (seen_entry : SeenEntry) → contains same_said seen seen_entry ≡ list_any (λ other. says seen_entry (line_of other)) earlier
