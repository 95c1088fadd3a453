-- Hashing the names of a known hosts text, as OpenSSH's `HashKnownHosts` writes them (ssh_config(5)): HMAC-SHA1 under a
-- salt.
-- Each list of entries takes its salts from the front of a whole list; the code asks for one salt after another.
use Rattle.std.specs.Prelude.{◌≡◌, ℕ, ◌+◌, Bool, not, ◌&&◌, ◌==◌, List, [], ◌∷◌, ◌++◌, length, drop, Option, Some, None, if◌then◌else◌, codes, bytes_eq}
use Rattle.std.specs.List.{join_with_byte, flat_map, AllByRecursion}
use Rattle.base64.specs.Engines.{standard}
use Rattle.base64.specs.GeneralPurpose.{encode_of}
use Rattle.sshc_key.specs.KeyGrammar.{Key}
use Rattle.sshc_hosts.specs.Hmac.{hmac_sha1}
use Rattle.sshc_hosts.specs.Judgement.{judged}
use Rattle.sshc_hosts.specs.MatchingLines.{parts_at, is_hashed, entry_matches}
use Rattle.sshc_audit.specs.Lines.{Line, line_of}
use Rattle.sshc_audit.specs.Removing.{with_host}
use Rattle.sshc_audit.specs.Salts.{SaltState, Took}

-- `|1|`, the base64 of the salt, `|`, and the base64 of the HMAC of the entry under it
abbrev pub hashed_entry : List ℕ → List ℕ → List ℕ
hashed_entry salt entry = codes "|1|" ++ (encode_of standard salt ++ 124 ∷ encode_of standard (hmac_sha1 salt entry))

-- an entry that isn't empty and isn't hashed yet
abbrev pub is_name : List ℕ → Bool
is_name entry = not (length entry == 0) && not (is_hashed entry)

-- ---- salts from the front of a list

abbrev pub first_salt : List (List ℕ) → List ℕ
first_salt [] = []
first_salt (salt ∷ salts) = salt

-- the results for each text, which takes as many salts as it needs
abbrev pub with_salts : {Y : Type 0} → (List ℕ → ℕ) → (List (List ℕ) → List ℕ → Y) → List (List ℕ) → List (List ℕ) → List Y
with_salts needs make salts [] = []
with_salts needs make salts (text ∷ texts) = make salts text ∷ with_salts needs make (drop (needs text) salts) texts

-- how many salts the texts need together
abbrev pub total : (List ℕ → ℕ) → List (List ℕ) → ℕ
total needs [] = 0
total needs (text ∷ texts) = needs text + total needs texts

-- ---- an entry

-- a name needs one salt
abbrev pub entry_needs : List ℕ → ℕ
entry_needs entry = if is_name entry then 1 else 0

-- a name is hashed with the first salt
abbrev pub hashed_or_same : List (List ℕ) → List ℕ → List ℕ
hashed_or_same salts entry = if is_name entry then hashed_entry (first_salt salts) entry else entry

-- the name with its salt
abbrev pub salted_entry : List (List ℕ) → List ℕ → List (List ℕ × List ℕ)
salted_entry salts entry = if is_name entry then (first_salt salts, entry) ∷ [] else []

-- ---- a part of the text

-- the entries of its host field; a part that is no line has none
abbrev pub entries_of : Option Line → List (List ℕ)
entries_of None = []
entries_of (Some line) = parts_at 44 line.host

abbrev pub part_needs : List ℕ → ℕ
part_needs part = total entry_needs (entries_of (line_of part))

-- the host field with each name hashed
abbrev pub hashed_field : List (List ℕ) → List ℕ → List ℕ
hashed_field salts field = join_with_byte 44 (with_salts entry_needs hashed_or_same salts (parts_at 44 field))

abbrev pub hashed_line : List (List ℕ) → List ℕ → Option Line → List ℕ
hashed_line salts part None = part
hashed_line salts part (Some line) = with_host line (hashed_field salts line.host)

abbrev pub hashed_part : List (List ℕ) → List ℕ → List ℕ
hashed_part salts part = hashed_line salts part (line_of part)

-- the names with their salts
abbrev pub salted_part : List (List ℕ) → List ℕ → List (List ℕ × List ℕ)
salted_part salts part = flat_map (λ named. named) (with_salts entry_needs salted_entry salts (entries_of (line_of part)))

-- ---- a text

-- how many names it has that aren't hashed yet
abbrev pub names_of : List ℕ → ℕ
names_of text = total part_needs (parts_at 10 text)

-- the text with each name hashed
abbrev pub hashed_text : List ℕ → List (List ℕ) → List ℕ
hashed_text text salts = join_with_byte 10 (with_salts part_needs hashed_part salts (parts_at 10 text))

-- the names with their salts
abbrev pub salted_names : List ℕ → List (List ℕ) → List (List ℕ × List ℕ)
salted_names text salts = flat_map (λ named. named) (with_salts part_needs salted_part salts (parts_at 10 text))

-- ---- the meaning of the new text

-- the host text has the same HMAC as a hashed name only if it is that name
abbrev pub IsAlone : List ℕ → List (List ℕ × List ℕ) → Type 0
IsAlone host named = AllByRecursion (λ name. hmac_sha1 name.0 host ≡ hmac_sha1 name.0 name.1 → name.1 ≡ host) named

-- a hashed name matches exactly the host texts with its HMAC
abbrev pub MatchesByHash : List (List ℕ × List ℕ) → Type 0
MatchesByHash named =
    AllByRecursion (λ name. (host : List ℕ) → entry_matches host (hashed_entry name.0 name.1) ≡ bytes_eq (hmac_sha1 name.0 host) (hmac_sha1 name.0 name.1)) named

-- the new text by its rule, with one returned salt for each name; what the new entries match; and the verdicts
pub record Hashes (old : List ℕ) (before after : SaltState) (new : List ℕ) : Type 0 where
  pub salts : List (List ℕ)
  pub took : Took before after salts
  pub count : length salts ≡ names_of old
  pub text : new ≡ hashed_text old salts
  pub entries : MatchesByHash (salted_names old salts)
  pub verdicts : (host : List ℕ) (key : Key) → IsAlone host (salted_names old salts) → judged new host key ≡ judged old host key
