-- Lines of a known hosts file and their fields (OpenSSH's sshd(8), "SSH_KNOWN_HOSTS FILE FORMAT").
-- A line is the list of its words; the code cuts off one word after another.
use Rattle.std.specs.Prelude.{ℕ, Bool, true, false, ◌&&◌, ◌||◌, ◌==◌, if◌then◌else◌, List, [], ◌∷◌, filter, codes, bytes_eq, Option, Some, None}
use Rattle.std.specs.List.{slice_split, list_any}
use Rattle.std.specs.Option.{option_and_then}
use Rattle.sshc_hosts.specs.MatchingLines.{parts_at}
use Rattle.sshc_hosts_openssh.specs.declared.entry.Mark.{Mark}
use Rattle.sshc_hosts_openssh.specs.declared.entry.Mark.TheVariants.{Recorded, Revoked, Authority}
use Rattle.sshc_hosts_openssh.specs.HostsField.{begins}

-- lines end at line feeds
abbrev pub lines : List ℕ → List (List ℕ)
lines text = parts_at 10 text

-- a line is read up to its first NUL byte, if it has one
abbrev pub first_part : List (List ℕ) → List ℕ
first_part [] = []
first_part (first ∷ later) = first

abbrev pub visible : List ℕ → List ℕ
visible line = first_part (parts_at 0 line)

-- words are separated by runs of spaces and tabs, which may also begin and end a line
abbrev pub is_blank : ℕ → Bool
is_blank b = b == 32 || b == 9

abbrev pub is_some_word : List ℕ → Bool
is_some_word [] = false
is_some_word (b ∷ word) = true

abbrev pub words : List ℕ → List (List ℕ)
words line = filter is_some_word (slice_split is_blank line)

-- what a line says: of which hosts, and the words for the key's type and the key; a comment may follow
pub record Entry : Type 0 where
  pub mark : Mark
  pub hosts : List ℕ
  pub key_type : List ℕ
  pub key : List ℕ

abbrev pub fields_of : Mark → List (List ℕ) → Option Entry
fields_of mark (hosts ∷ key_type ∷ key ∷ comment) =
    Some (record { mark = mark; hosts = hosts; key_type = key_type; key = key })
fields_of mark words = None

-- a line with another mark is passed over
abbrev pub mark_named : List ℕ → Option Mark
mark_named word =
    if bytes_eq word (codes "@revoked") then Some Revoked
    else if bytes_eq word (codes "@cert-authority") then Some Authority else None

-- and so is a line with more than one mark
abbrev pub marked_fields : Option Mark → List (List ℕ) → Option Entry
marked_fields (Some mark) (hosts ∷ words) = if begins 64 hosts then None else fields_of mark (hosts ∷ words)
marked_fields mark words = None

-- a line of no words is empty, and one whose first word begins with `#` is a comment
abbrev pub entry_of : List (List ℕ) → Option Entry
entry_of [] = None
entry_of (first ∷ words) =
    if begins 35 first then None else if begins 64 first then marked_fields (mark_named first) words
    else fields_of Recorded (first ∷ words)

-- a line of an authority that has a tab is passed over, since OpenSSH ends its mark at the first space of the line
abbrev pub is_authority : Mark → Bool
is_authority Authority = true
is_authority mark = false

abbrev pub has_tab : List ℕ → Bool
has_tab line = list_any (λ b. b == 9) line

abbrev pub unless_tabbed : List ℕ → Entry → Option Entry
unless_tabbed line entry = if is_authority entry.mark && has_tab line then None else Some entry

abbrev pub read_line : List ℕ → Option Entry
read_line line = option_and_then (unless_tabbed (visible line)) (entry_of (words (visible line)))
