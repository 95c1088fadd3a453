-- The hosts field of a known hosts line, and the name that is looked for in it (OpenSSH's sshd(8), "SSH_KNOWN_HOSTS
-- FILE FORMAT"; ssh_config(5), "PATTERNS"; ssh_config(5), "HashKnownHosts").
-- Statements about all patterns of the field; the code goes over them once.
use Rattle.std.specs.Prelude.{ℕ, Bool, false, not, ◌&&◌, ◌==◌, nat_lt, if◌then◌else◌, List, [], ◌∷◌, ◌++◌, length, drop, map, codes, bytes_eq, Option, Some, None}
use Rattle.std.specs.List.{list_any, list_all}
use Rattle.std.specs.Char.{to_ascii_lowercase}
use Rattle.base64.specs.Engines.{standard}
use Rattle.base64.specs.GeneralPurpose.{decoded_of, encode_of}
use Rattle.sshc_hosts.specs.Hmac.{hmac_sha1}
use Rattle.sshc_hosts.specs.HostText.{host_text}
use Rattle.sshc_hosts.specs.MatchingLines.{parts_at}
use Rattle.sshc_hosts_openssh.specs.Patterns.{matches}

-- what is looked for: the host in lower case, as `[host]:port` where the port isn't 22
abbrev pub name_of : List ℕ → ℕ → List ℕ
name_of host port = map to_ascii_lowercase (host_text host port)

-- the list begins with the byte
abbrev pub begins : ℕ → List ℕ → Bool
begins b [] = false
begins b (c ∷ rest) = c == b

-- ---- patterns

-- a pattern may begin with `!`
abbrev pub is_negated : List ℕ → Bool
is_negated part = begins 33 part

abbrev pub pattern_in : List ℕ → List ℕ
pattern_in part = if is_negated part then drop 1 part else part

abbrev pub includes : List ℕ → List ℕ → Bool
includes name part = not (is_negated part) && matches (pattern_in part) name

abbrev pub excludes : List ℕ → List ℕ → Bool
excludes name part = is_negated part && matches (pattern_in part) name

-- OpenSSH reads patterns of at most 1,022 bytes, and no list that has a longer one
abbrev pub is_short : List ℕ → Bool
is_short part = nat_lt (length (pattern_in part)) 1023

-- a list names what one of its patterns matches, unless a pattern behind `!` matches it too
abbrev pub list_names : List ℕ → List (List ℕ) → Bool
list_names name parts =
    list_any (includes name) parts && not (list_any (excludes name) parts) && list_all is_short parts

-- ---- hashed names

-- `|1|`, a salt, `|`, and the HMAC-SHA1 of the name under the salt, both in base64
abbrev pub hashed_name : List ℕ → List ℕ → List ℕ
hashed_name salt name = codes "|1|" ++ encode_of standard salt ++ codes "|" ++ encode_of standard (hmac_sha1 salt name)

-- the salt of a field with these parts at `|`
abbrev pub salt_in : List (List ℕ) → Option (List ℕ)
salt_in (front ∷ version ∷ salt ∷ later) = decoded_of standard salt
salt_in parts = None

-- a salt has 20 bytes
abbrev pub is_hashed_under : Option (List ℕ) → List ℕ → List ℕ → Bool
is_hashed_under None name field = false
is_hashed_under (Some salt) name field = length salt == 20 && bytes_eq field (hashed_name salt name)

-- a field that begins with `|` is one hashed name, and any other a list of patterns
abbrev pub field_names : List ℕ → List ℕ → Bool
field_names name field =
    if begins 124 field then is_hashed_under (salt_in (parts_at 124 field)) name field
    else list_names name (parts_at 44 field)
