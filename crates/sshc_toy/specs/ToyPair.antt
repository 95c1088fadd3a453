-- The toy pair: a signature is the HMAC with SHA-1 (RFC 2104) of the bytes under the key's blob, under the name that
-- the key's signatures have (RFC 4253, section 6.6; RFC 8332, section 3). Anyone who knows the public key can make it:
-- it is for runs without a server.
-- The signature is one record; the code writes its two strings.
use Rattle.std.specs.Prelude.{◌≡◌, ℕ, ◌≤◌, Bool, false, not, ◌&&◌, ◌||◌, nat_le, List, length, codes, bytes_eq, Option, Some, None, Vec}
use Rattle.std.specs.declared.alloc.Global.{Global}
use Rattle.std.specs.Option.{is_none}
use Rattle.sshc_wire.specs.declared.hash_alg.HashAlg.{HashAlg}
use Rattle.sshc_hosts.specs.Hmac.{hmac_sha1}
use Rattle.sshc_key.specs.declared.signature.Signature.{Signature}
use Rattle.sshc_key.specs.KeyGrammar.{Key, rsa, plain, certificate, key_name, key_text, begins_sk, signature_text}
use Rattle.sshc_key.specs.Signers.{IsSignature}
use Rattle.sshc_key.specs.RequestNames.{request_name}

-- the name of a key's signatures with this hash
abbrev pub toy_name : Key → Option HashAlg → List ℕ
toy_name key hash = request_name key hash

-- a name of at most 64 bytes that isn't a security key's: those signatures have a counter, which this signer doesn't
-- have
abbrev pub can_sign : List ℕ → Bool
can_sign name = not (begins_sk name) && nat_le (length name) 64

abbrev pub toy_signature : Key → Option HashAlg → List ℕ → Signature
toy_signature key hash bytes = record { name = toy_name key hash; body = hmac_sha1 (key_text key) bytes; sk = None }

-- a name that the key's signatures have: RSA signs with three hashes, and a certificate signs nothing
abbrev pub is_own_name : Key → List ℕ → Bool
is_own_name (plain (rsa e n)) name = bytes_eq name (codes "ssh-rsa") || (bytes_eq name (codes "rsa-sha2-256") || bytes_eq name (codes "rsa-sha2-512"))
is_own_name (plain k) name = bytes_eq name (key_name (plain k))
is_own_name (certificate nonce key says signer signature) name = false

-- what the toy verifier accepts of a key over the bytes
abbrev pub toy_accepts : Key → List ℕ → Signature → Bool
toy_accepts key bytes s = is_none s.sk && (is_own_name key s.name && bytes_eq s.body (hmac_sha1 (key_text key) bytes))

-- the result of the toy signer; None if the name can't sign
abbrev pub IsToyAnswer : Key → Option HashAlg → List ℕ → Option (Vec ℕ Global) → Type 0
IsToyAnswer key hash bytes None = can_sign (toy_name key hash) ≡ false
IsToyAnswer key hash bytes (Some v) = (v.items ≡ signature_text (toy_signature key hash bytes)) × (IsSignature v.items × (length v.items ≤ 65536))
