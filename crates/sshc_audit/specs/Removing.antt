-- Removing a host from a known hosts text.
-- Each part becomes another one by a filter over its entries; the code copies entry by entry.
use Rattle.std.specs.Prelude.{◌≡◌, ℕ, Bool, false, not, ◌&&◌, ◌||◌, List, [], ◌∷◌, Option, Some, None, ◌==◌, if◌then◌else◌, map, filter, option_map}
use Rattle.std.specs.List.{list_any, flat_map, join_with_byte}
use Rattle.sshc_hosts.specs.MatchingLines.{parts_at, entry_matches, field_matches}
use Rattle.sshc_audit.specs.Lines.{Line, line_of, line_text}
use Rattle.sshc_audit.specs.Rewriting.{Change}

-- begins with `#` or `@`, so that a line which begins with it would be a comment or a marked line
abbrev pub begins_apart : List ℕ → Bool
begins_apart [] = false
begins_apart (b ∷ rest) = (b == 35) || (b == 64)

-- an entry that stays in a line which loses the host
abbrev pub stays : List ℕ → List ℕ → Bool
stays host entry = not (entry_matches host entry) && not (begins_apart entry)

-- the entries of the host field
abbrev pub entries : Line → List (List ℕ)
entries line = parts_at 44 line.host

-- the line with another host field
abbrev pub with_host : Line → List ℕ → List ℕ
with_host line host = line_text (record line { host = host })

-- the entries with commas between them; None if there are none
abbrev pub joined_entries : List (List ℕ) → Option (List ℕ)
joined_entries [] = None
joined_entries (entry ∷ more) = Some (join_with_byte 44 (entry ∷ more))

-- the new text of a line: one with an entry that matches the host keeps only the entries that stay
abbrev pub line_without : List ℕ → List ℕ → Line → Option (List ℕ)
line_without host part line =
    if field_matches host line.host then option_map (with_host line) (joined_entries (filter (stays host) (entries line))) else Some part

abbrev pub part_by : List ℕ → List ℕ → Option Line → Option (List ℕ)
part_by host part None = Some part
part_by host part (Some line) = line_without host part line

-- the new text of a part
abbrev pub part_without : List ℕ → List ℕ → Option (List ℕ)
part_without host part = part_by host part (line_of part)

-- the host is removed from each line
abbrev pub removes_host : List ℕ → List ℕ → List Change
removes_host text host = map (λ part. (part, part_without host part)) (parts_at 10 text)

-- the entries that a line loses
abbrev pub lost_entries : List ℕ → Option Line → List (List ℕ)
lost_entries host None = []
lost_entries host (Some line) =
    if field_matches host line.host then filter (λ entry. not (stays host entry)) (entries line) else []

-- the entries that are removed with the host
abbrev pub removed_entries : List ℕ → List ℕ → List (List ℕ)
removed_entries text host = flat_map (λ part. lost_entries host (line_of part)) (parts_at 10 text)

-- none of the entries matches the host text
abbrev pub NoneMatches : List ℕ → List (List ℕ) → Type 0
NoneMatches host removed = list_any (λ entry. entry_matches host entry) removed ≡ false
