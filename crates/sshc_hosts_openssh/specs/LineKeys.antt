-- The key of a known hosts line (OpenSSH's sshd(8), "SSH_KNOWN_HOSTS FILE FORMAT": key type, base64-encoded key).
-- The word for the type is compared with the name that the key's blob begins with; the code reads the blob first too.
use Rattle.std.specs.Prelude.{ℕ, Bool, true, false, not, ◌&&◌, ◌||◌, ◌==◌, nat_le, if◌then◌else◌, List, filter, bytes_eq, Option, Some, None}
use Rattle.std.specs.Option.{option_and_then}
use Rattle.base64.specs.Engines.{standard}
use Rattle.base64.specs.GeneralPurpose.{decoded_of}
use Rattle.sshc_key.specs.KeyGrammar.{Key, plain, certificate, opaque}
use Rattle.sshc_key.specs.RequestNames.{request_name}
use Rattle.sshc_wire.specs.declared.hash_alg.HashAlg.{HashAlg}
use Rattle.sshc_wire.specs.declared.hash_alg.HashAlg.TheVariants.{Sha256, Sha512}
use Rattle.sshc_key.specs.Nesting.{whole_blob_key}

-- white space inside base64 is passed over, as the carriage return before a line feed
abbrev pub is_no_space : ℕ → Bool
is_no_space b = not (nat_le 9 b && nat_le b 13 || b == 32)

-- the whole blob of which the word is the padded base64 (RFC 4648, section 4) is a key
abbrev pub key_in : List ℕ → Option Key
key_in word = option_and_then whole_blob_key (decoded_of standard (filter is_no_space word))

-- the key that a certificate certifies; of a plain key the key itself
abbrev pub bare : Key → Key
bare (plain k) = plain k
bare (certificate nonce key says signer signature) = key

-- a type that has a name of OpenSSH's
abbrev pub is_known_type : Key → Bool
is_known_type (plain (opaque name body)) = false
is_known_type (plain k) = true
is_known_type (certificate nonce key says signer signature) = false

-- the word is the name of the key's type, or for an RSA key of its signatures by one of the hashes (RFC 8332,
-- section 3)
abbrev pub is_named : List ℕ → Key → Option HashAlg → Bool
is_named word key hash = bytes_eq word (request_name key hash)

abbrev pub is_type_of : List ℕ → Key → Bool
is_type_of word key =
    is_known_type (bare key)
    && (is_named word key None || is_named word key (Some Sha256) || is_named word key (Some Sha512))

-- a key that can't be read, or has another type, is none
abbrev pub of_type : List ℕ → Key → Option Key
of_type word key = if is_type_of word key then Some key else None

abbrev pub key_on : List ℕ → List ℕ → Option Key
key_on key_type word = option_and_then (of_type key_type) (key_in word)
