-- The lines of a known hosts text that match a host (OpenSSH's sshd(8), "SSH_KNOWN_HOSTS FILE FORMAT").
-- A filter over all numbered lines; the code cuts off one line after another.
use Rattle.std.specs.Prelude.{ℕ, Bool, true, false, List, [], ◌∷◌, Option, Some, None, ◌==◌, if◌then◌else◌, codes, filter, option_map}
use Rattle.std.specs.List.{slice_split, list_any, filter_map, enumerate_from, starts_with}
use Rattle.std.specs.Str.{bytes_eq}
use Rattle.std.specs.Prelude.{nat_eq}
use Rattle.base64.specs.Engines.{standard}
use Rattle.base64.specs.GeneralPurpose.{decoded_of}
use Rattle.sshc_key.specs.KeyText.{is_no_line_end}
use Rattle.sshc_hosts.specs.Hmac.{hmac_sha1}
use Rattle.sshc_hosts.specs.declared.marks.Mark.{Mark}
use Rattle.sshc_hosts.specs.declared.marks.Mark.TheVariants.{Recorded, Revoked}
use Rattle.sshc_hosts.specs.declared.lines.KeyField.{KeyField}

-- the parts at each such byte
abbrev pub parts_at : ℕ → List ℕ → List (List ℕ)
parts_at at bytes = slice_split (λ b. b == at) bytes

-- padded base64 (RFC 4648, section 4), after carriage returns and line feeds are dropped
abbrev pub base64_bytes : List ℕ → Option (List ℕ)
base64_bytes text = decoded_of standard (filter is_no_line_end text)

-- the HMAC of the host text under the salt is the hash
abbrev pub hash_matches : List ℕ → Option (List ℕ) → Option (List ℕ) → Bool
hash_matches host (Some salt) (Some hash) = bytes_eq (hmac_sha1 salt host) hash
hash_matches host salt hash = false

-- by the parts of a hashed entry at `|`: the third is the salt, the fourth the hash, and later ones are ignored
abbrev pub hashed_matches : List ℕ → List (List ℕ) → Bool
hashed_matches host (front ∷ version ∷ salt ∷ hash ∷ later) = hash_matches host (base64_bytes salt) (base64_bytes hash)
hashed_matches host parts = false

-- an entry that begins with `|1|` is hashed
abbrev pub is_hashed : List ℕ → Bool
is_hashed entry = starts_with nat_eq entry (124 ∷ 49 ∷ 124 ∷ [])

-- an entry that isn't hashed matches where it is the host text
abbrev pub entry_matches : List ℕ → List ℕ → Bool
entry_matches host entry = if is_hashed entry then hashed_matches host (parts_at 124 entry) else bytes_eq entry host

-- a host field is a list of entries, separated by commas
abbrev pub field_matches : List ℕ → List ℕ → Bool
field_matches host field = list_any (λ entry. entry_matches host entry) (parts_at 44 field)

-- a line that begins with `#` is a comment
abbrev pub is_comment : List ℕ → Bool
is_comment [] = false
is_comment (b ∷ rest) = b == 35

-- ---- marks

-- the first field of a line that revokes its key
abbrev pub revoked_mark : List ℕ
revoked_mark = codes "@revoked"

-- the mark of a line with these fields, and the fields that follow the mark; all of them where there is no mark
abbrev pub marked : List (List ℕ) → Mark × List (List ℕ)
marked [] = (Recorded, [])
marked (first ∷ fields) = if bytes_eq first revoked_mark then (Revoked, fields) else (Recorded, first ∷ fields)

abbrev pub is_revoked : Mark → Bool
is_revoked Recorded = false
is_revoked Revoked = true

-- the key of a matching line as text, and the line's mark
pub record LineKey : Type 0 where
  pub mark : Mark
  pub text : List ℕ

abbrev pub marked_as : Mark → List ℕ → LineKey
marked_as mark text = record { mark = mark; text = text }

-- ---- lines

-- the third field, where the first one matches
abbrev pub third_field : List ℕ → List (List ℕ) → Option (List ℕ)
third_field host (field ∷ name ∷ key ∷ later) = if field_matches host field then Some key else None
third_field host fields = None

-- the third field of those behind the mark, where the first of them matches
abbrev pub marked_key : List ℕ → Mark × List (List ℕ) → Option LineKey
marked_key host line = option_map (marked_as line.0) (third_field host line.1)

-- the key of a line that matches
abbrev pub line_key : List ℕ → List ℕ → Option LineKey
line_key host line = if is_comment line then None else marked_key host (marked (parts_at 32 line))

-- the number of a line and its key, where it matches
abbrev pub numbered_key : List ℕ → (ℕ × List ℕ) → Option (ℕ × LineKey)
numbered_key host line = option_map (λ key. (line.0, key)) (line_key host line.1)

-- the matching lines of a text, by their numbers from 1, with their marks and keys
abbrev pub matching : List ℕ → List ℕ → List (ℕ × LineKey)
matching text host = filter_map (numbered_key host) (enumerate_from 1 (parts_at 10 text))

-- ---- what the code cuts off

-- the line begins with `@`
abbrev pub begins_mark : List ℕ → Bool
begins_mark [] = false
begins_mark (b ∷ rest) = b == 64

-- the fields of the text behind a mark
abbrev pub fields_behind : Option (List ℕ) → List (List ℕ)
fields_behind None = []
fields_behind (Some text) = parts_at 32 text

-- the key that a value of the code's type represents
abbrev pub field_seen : KeyField → LineKey
field_seen key = record { mark = key.mark; text = key.text.now }

-- and its line's number with it
abbrev pub line_seen : ℕ × KeyField → ℕ × LineKey
line_seen line = (line.0, field_seen line.1)
