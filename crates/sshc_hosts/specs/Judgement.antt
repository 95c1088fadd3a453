-- The judgement of a host key by the matching lines of a known hosts text (OpenSSH's sshd(8), "SSH_KNOWN_HOSTS FILE
-- FORMAT").
-- Six cases over the whole list of matching lines; the first that fits is the result. The code reads that list once,
-- and then goes over its keys.
use Rattle.std.specs.Prelude.{[], ◌∷◌, ◌++◌, if◌then◌else◌, ℕ, Bool, true, false, not, ◌&&◌, List, Option, Some, None, Result, Ok, Err, bytes_eq, find, is_some, option_map}
use Rattle.sshc_wire.specs.Reads.{◌>>=◌}
use Rattle.sshc_key.specs.AlgorithmNames.{kind_name}
use Rattle.sshc_key.specs.KeyGrammar.{Key, plain, certificate, plain_kind}
use Rattle.sshc_key.specs.KeyEq.{key_eq}
use Rattle.sshc_key.specs.KeyText.{decoded_key}
use Rattle.sshc_key.specs.declared.error.Error.{Error}
use Rattle.sshc_key.specs.declared.error.Error.TheVariants as errors
use Rattle.sshc_hosts.specs.declared.judgement.MarkedKeys.{MarkedKeys}
use Rattle.sshc_hosts.specs.declared.marks.Mark.{Mark}
use Rattle.sshc_hosts.specs.declared.marks.Mark.TheVariants.{Recorded, Revoked}
use Rattle.sshc_hosts.specs.MatchingLines.{LineKey, matching}

-- the number of a line, its key and that key's comment
abbrev pub KnownKey : Type 0
KnownKey = ℕ × (Key × List ℕ)

abbrev pub is_certificate : Key → Bool
is_certificate (plain k) = false
is_certificate (certificate nonce key says signer signature) = true

-- the name of a plain key's algorithm, with which its blob begins
abbrev pub algorithm_name : Key → Option (List ℕ)
algorithm_name (plain k) = Some (kind_name (plain_kind k))
algorithm_name (certificate nonce key says signer signature) = None

abbrev pub same_names : Option (List ℕ) → Option (List ℕ) → Bool
same_names (Some name) (Some other) = bytes_eq name other
same_names name other = false

-- two plain keys of one algorithm; a certificate has an algorithm of its own
abbrev pub same_algorithm : Key → Key → Bool
same_algorithm key other = same_names (algorithm_name key) (algorithm_name other)

-- the line has another key of the key's algorithm
abbrev pub contradicts : Key → KnownKey → Bool
contradicts key known = same_algorithm key known.1.0 && not (key_eq key known.1.0)

-- the line has the key
abbrev pub has_key : Key → KnownKey → Bool
has_key key known = key_eq key known.1.0

-- the number of the first line that passes a test
abbrev pub first_line : (KnownKey → Bool) → List KnownKey → Option ℕ
first_line test lines = option_map (λ known. known.0) (find test lines)

-- the keys of matching lines, by the marks of the lines
pub record KeysByMark : Type 0 where
  pub recorded : List KnownKey
  pub revoked : List KnownKey

-- by the first line that revokes the key, the first that contradicts it, and the first that records it
abbrev pub verdict : (revoking contrary recording : Option ℕ) → Result Bool Error
verdict (Some line) contrary recording = Err (errors.Revoked line)
verdict None (Some line) recording = Err (errors.KeyChanged line)
verdict None None recording = Ok (is_some recording)

-- a line that revokes the key refuses it; then one that contradicts it does; otherwise each line that records it
-- accepts it
abbrev pub judged_among : Key → KeysByMark → Result Bool Error
judged_among key keys =
    verdict (first_line (has_key key) keys.revoked) (first_line (contradicts key) keys.recorded) (first_line (has_key key) keys.recorded)

-- a key before the others of its mark
abbrev pub with_key : Mark → KnownKey → KeysByMark → KeysByMark
with_key Recorded known keys = record keys { recorded = known ∷ keys.recorded }
with_key Revoked known keys = record keys { revoked = known ∷ keys.revoked }

-- the keys of the lines by their marks, or why the first unreadable line can't be read
abbrev pub read_lines : List (ℕ × LineKey) → Result KeysByMark Error
read_lines [] = Ok (record { recorded = []; revoked = [] })
read_lines (line ∷ lines) = do
  key ← decoded_key line.1.text
  rest ← read_lines lines
  Ok (with_key line.1.mark (line.0, (key, [])) rest)

-- the keys of the matching lines of a text
unfoldable pub marked_keys : List ℕ → List ℕ → Result KeysByMark Error
marked_keys text host = read_lines (matching text host)

-- the keys that a text records for a host, and those that it revokes
unfoldable pub known_keys : List ℕ → List ℕ → Result (List KnownKey) Error
known_keys text host = marked_keys text host >>= (λ keys. Ok keys.recorded)

unfoldable pub revoked_keys : List ℕ → List ℕ → Result (List KnownKey) Error
revoked_keys text host = marked_keys text host >>= (λ keys. Ok keys.revoked)

-- no certificate is accepted
abbrev pub judged_by : Result KeysByMark Error → Key → Result Bool Error
judged_by keys key = if is_certificate key then Ok false else (keys >>= judged_among key)

-- the judgement of a key by a known hosts text, for the host that a host text names
unfoldable pub judged : List ℕ → List ℕ → Key → Result Bool Error
judged text host key = judged_by (marked_keys text host) key

-- the errors of a call that reads the lines: a line that can't be read, or out of memory
abbrev pub IsUnreadable : Error → Type 0
IsUnreadable errors.Decode = Unit {0}
IsUnreadable errors.SshKey = Unit {0}
IsUnreadable errors.NoMemory = Unit {0}
IsUnreadable e = ⊥

-- the errors of a call that judges
abbrev pub IsRefusal : Error → Type 0
IsRefusal (errors.KeyChanged line) = Unit {0}
IsRefusal (errors.Revoked line) = Unit {0}
IsRefusal e = IsUnreadable e

-- ---- the keys that the code collects

-- a key after the others of its mark
abbrev pub and_key : Mark → KnownKey → KeysByMark → KeysByMark
and_key Recorded known keys = record keys { recorded = keys.recorded ++ known ∷ [] }
and_key Revoked known keys = record keys { revoked = keys.revoked ++ known ∷ [] }

-- the key of a line after them, or why it can't be read
abbrev pub and_line : ℕ × LineKey → KeysByMark → Result KeysByMark Error
and_line line keys = decoded_key line.1.text >>= (λ key. Ok (and_key line.1.mark (line.0, (key, [])) keys))

-- the keys that a value of the code's type represents
abbrev pub keys_seen : MarkedKeys → KeysByMark
keys_seen keys = record { recorded = keys.recorded.items; revoked = keys.revoked.items }
