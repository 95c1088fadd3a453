-- The lines of a known hosts text as rewriting sees them (OpenSSH's sshd(8), "SSH_KNOWN_HOSTS FILE FORMAT").
-- By the list of all fields of a part; the code cuts off one field after another.
use Rattle.std.specs.Prelude.{ℕ, Bool, false, not, ◌&&◌, List, [], ◌∷◌, ◌++◌, Option, Some, None, ◌==◌, if◌then◌else◌, codes}
use Rattle.std.specs.List.{list_any, join_with_byte}
use Rattle.sshc_hosts.specs.declared.marks.Mark.{Mark}
use Rattle.sshc_hosts.specs.declared.marks.Mark.TheVariants.{Recorded, Revoked}
use Rattle.sshc_hosts.specs.MatchingLines.{parts_at, is_comment, marked}
use Rattle.sshc_audit.specs.declared.line.LineFields.{LineFields}

-- a field that begins with `@` and has no comma is a mark
abbrev pub is_mark : List ℕ → Bool
is_mark [] = false
is_mark (b ∷ rest) = (b == 64) && not (list_any (λ c. c == 44) rest)

-- a line: its mark, its host field, its third field, and everything after the host field and its space
pub record Line : Type 0 where
  pub mark : Mark
  pub host : List ℕ
  pub key : List ℕ
  pub rest : List ℕ

-- the line of these fields, which follow the mark, if there are at least three
abbrev pub line_in : Mark → List (List ℕ) → Option Line
line_in mark (host ∷ name ∷ key ∷ later) =
    Some (record { mark = mark; host = host; key = key; rest = join_with_byte 32 (name ∷ key ∷ later) })
line_in mark fields = None

-- fields that begin with another mark than `@revoked` are no line
abbrev pub line_by : Mark × List (List ℕ) → Option Line
line_by (Revoked, fields) = line_in Revoked fields
line_by (Recorded, []) = None
line_by (Recorded, (first ∷ fields)) = if is_mark first then None else line_in Recorded (first ∷ fields)

-- the line in a part of the text; None for comments, parts with another mark and parts with too few fields
unfoldable pub line_of : List ℕ → Option Line
line_of part = if is_comment part then None else line_by (marked (parts_at 32 part))

-- the mark and its space
abbrev pub mark_text : Mark → List ℕ
mark_text Recorded = []
mark_text Revoked = codes "@revoked "

-- the text of a line
abbrev pub line_text : Line → List ℕ
line_text line = mark_text line.mark ++ (line.host ++ 32 ∷ line.rest)

-- ---- the line that a value of the code's type represents

abbrev pub line_seen : LineFields → Line
line_seen line = record { mark = line.mark; host = line.host.now; key = line.key.now; rest = line.rest.now }
