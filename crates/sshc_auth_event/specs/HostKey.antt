-- The host key of an exchange: the whole blob is one key of its sort (RFC 4253, section 8), else it counts as missing.
-- A case split on the blob's key; the code parses the blob. A session keeps the host key of its first exchange.
use Rattle.std.specs.Prelude.{◌≡◌, ◌↔◌, ℕ, Bool, true, false, List, [], Option, Some, None, if◌then◌else◌, bytes_eq}
use Rattle.sshc_key.specs.KeyGrammar.{Key, plain, certificate}
use Rattle.sshc_key.specs.declared.identity.PublicKeyOrCertificate.{PublicKeyOrCertificate}
use Rattle.sshc_key.specs.declared.identity.PublicKeyOrCertificate.TheVariants as identities
use Rattle.sshc_key.specs.Nesting.{whole_blob_key}
use Rattle.sshc_transport.specs.declared.exchange.ExchangeKey.{ExchangeKey}
use Rattle.sshc_transport.specs.declared.exchange.ExchangeKey.TheVariants as keys

-- the key without a comment
abbrev pub bare : Option Key → Option (Key × List ℕ)
bare None = None
bare (Some key) = Some (key, [])

abbrev pub is_plain : Key → Bool
is_plain (plain k) = true
is_plain (certificate nonce key says signer signature) = false

-- a plain key, which signs with no hash of its own
abbrev pub plain_identity : Option (Key × List ℕ) → Option PublicKeyOrCertificate
plain_identity None = None
plain_identity (Some key) = if is_plain key.0 then Some (identities.PublicKey key None) else None

-- a certificate
abbrev pub certificate_case : Key → Option PublicKeyOrCertificate
certificate_case key = if is_plain key then None else Some (identities.Certificate key)

abbrev pub certificate_identity : Option (Key × List ℕ) → Option PublicKeyOrCertificate
certificate_identity None = None
certificate_identity (Some key) = certificate_case key.0

abbrev pub host_key : ExchangeKey → Option PublicKeyOrCertificate
host_key keys.Missing = None
host_key (keys.Key blob) = plain_identity (bare (whole_blob_key blob))
host_key (keys.Certificate blob) = certificate_identity (bare (whole_blob_key blob))

-- the host key of an exchange is the one that was kept: both are keys, or both are certificates, of the same bytes; a
-- missing key is none
abbrev pub is_same_key : ExchangeKey → ExchangeKey → Bool
is_same_key (keys.Key kept) (keys.Key blob) = bytes_eq kept blob
is_same_key (keys.Certificate kept) (keys.Certificate blob) = bytes_eq kept blob
is_same_key kept key = false

-- whether the bytes are the same says whether the keys are: of a kept key that can be read, only the same key is said to
-- be the same
abbrev pub TellsKeysApart : Bool → ExchangeKey → ExchangeKey → Type 0
TellsKeysApart same kept key = (identity : PublicKeyOrCertificate) → host_key kept ≡ Some identity → (same ≡ true) ↔ (host_key key ≡ Some identity)
