-- The names of a policy: keys by what they are called and by their fingerprints, hosts by a known hosts text (OpenSSH's
-- sshd(8), "SSH_KNOWN_HOSTS FILE FORMAT").
-- Each is looked up in whole lists; a text that names two keys names none.
use Rattle.std.specs.Prelude.{◌≡◌, ℕ, Bool, not, ◌&&◌, ◌||◌, List, [], ◌∷◌, ◌++◌, Option, Some, None, Result, Ok, Err, codes, bytes_eq, find, map, filter, if◌then◌else◌}
use Rattle.std.specs.List.{list_any}
use Rattle.base64.specs.Engines.{standard_no_pad}
use Rattle.base64.specs.GeneralPurpose.{encode_of}
use Rattle.sha2.specs.Sha256.{sha256}
use Rattle.sshc_wire.specs.Reads.{◌>>=◌}
use Rattle.sshc_key.specs.KeyGrammar.{key_text}
use Rattle.sshc_key.specs.declared.error.Error.{Error}
use Rattle.sshc_key.specs.declared.error.Error.TheVariants as errors
use Rattle.sshc_hosts.specs.HostText.{host_text}
use Rattle.sshc_hosts.specs.Judgement.{KnownKey, has_key, is_certificate, known_keys, revoked_keys}
use Rattle.sshc_proxy_policy.specs.declared.fault.Fault.{Fault}
use Rattle.sshc_proxy_policy.specs.declared.fault.Fault.TheVariants as faults
use Rattle.sshc_proxy_policy.specs.declared.fault.LineError.{LineError}
use Rattle.sshc_proxy_policy.specs.declared.fault.LineError.TheVariants as line_errors

-- ---- keys

-- a key's blob, and what it is called: the comment with which an agent lists it, or the path of its file
pub record Named : Type 0 where
  pub blob : List ℕ
  pub name : List ℕ

-- as `ssh-keygen -l` prints it: the SHA-256 of the blob (FIPS 180-4) in base64 without padding (RFC 4648, section 4)
abbrev pub fingerprint : List ℕ → List ℕ
fingerprint blob = codes "SHA256:" ++ encode_of standard_no_pad (sha256 blob)

abbrev pub is_named : List ℕ → Named → Bool
is_named text key = bytes_eq key.name text || bytes_eq (fingerprint key.blob) text

-- a key of this name, but not the key with this blob
abbrev pub is_another : List ℕ → List ℕ → Named → Bool
is_another text blob key = is_named text key && not (bytes_eq key.blob blob)

abbrev pub blob_by : List Named → List ℕ → Option Named → Result (List ℕ) Fault
blob_by keys text None = Err faults.UnknownKey
blob_by keys text (Some key) = if list_any (is_another text key.blob) keys then Err faults.AmbiguousKey else Ok key.blob

-- the blob of the key that a text names
unfoldable pub key_named : List Named → List ℕ → Result (List ℕ) Fault
key_named keys text = blob_by keys text (find (is_named text) keys)

-- ---- hosts

-- no certificate, and revoked by none of these lines
abbrev pub is_kept : List KnownKey → KnownKey → Bool
is_kept revoked known = not (is_certificate known.1.0) && not (list_any (has_key known.1.0) revoked)

-- the blobs of the lines' keys
abbrev pub kept : List KnownKey → List KnownKey → List (List ℕ)
kept revoked known = map (λ line. key_text line.1.0) (filter (is_kept revoked) known)

abbrev pub some_keys : List (List ℕ) → Result (List (List ℕ)) Fault
some_keys [] = Err faults.UnknownHost
some_keys (key ∷ keys) = Ok (key ∷ keys)

abbrev pub keys_by : Result (List KnownKey) Error → Result (List KnownKey) Error → Result (List (List ℕ)) Fault
keys_by (Ok known) (Ok revoked) = some_keys (kept revoked known)
keys_by known revoked = Err faults.UnreadableHost

-- the blobs of the keys that a known hosts text records for a host and doesn't revoke for it; the name is as the text has
-- it, so it is that of the host at port 22
unfoldable pub host_keys : List ℕ → List ℕ → Result (List (List ℕ)) Fault
host_keys hosts name = keys_by (known_keys hosts (host_text name 22)) (revoked_keys hosts (host_text name 22))

-- a known hosts text can't be read for a host
abbrev pub unread : Error → LineError
unread errors.NoMemory = line_errors.NoMemory
unread e = line_errors.Faulty faults.UnreadableHost

-- of each of these hosts, or the first fault
abbrev pub all_keys : List ℕ → List (List ℕ) → Result (List (List (List ℕ))) Fault
all_keys hosts [] = Ok []
all_keys hosts (name ∷ names) = do
  keys ← host_keys hosts name
  others ← all_keys hosts names
  Ok (keys ∷ others)
