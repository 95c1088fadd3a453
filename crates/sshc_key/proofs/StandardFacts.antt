-- The standards' own examples, computed: the integers of RFC 4251, section 5, and names of algorithms.
use Rattle.std.proofs.Common.{◌≡◌, ℕ, List, [], ◌∷◌, ◌++◌, true, false, Some, None, refl}
use Rattle.std.specs.Prelude.{codes}
use Rattle.sshc_wire.specs.Wire.{string_text}
use Rattle.sshc_wire.specs.declared.hash_alg.HashAlg.TheVariants.{Sha256, Sha512}
use Rattle.sshc_key.specs.AgentNumbers as standard
use Rattle.sshc_key.specs.declared.agent_msg.TheConstants as code
use Rattle.sshc_key.specs.AlgorithmNames.{certificate_name, parted}
use Rattle.sshc_key.specs.declared.kind.Known.TheVariants as known
use Rattle.sshc_key.specs.declared.kind.Kind.TheVariants as kinds
use Rattle.sshc_key.specs.KeyGrammar.{ed25519, is_mpint, key_text, plain, rsa}
use Rattle.sshc_key.specs.RequestNames.{request_name}

-- "9a378f9b2e332a7": 09 a3 78 f9 b2 e3 32 a7
positive : is_mpint (0x09 ∷ 0xa3 ∷ 0x78 ∷ 0xf9 ∷ 0xb2 ∷ 0xe3 ∷ 0x32 ∷ 0xa7 ∷ []) ≡ true
positive = refl

-- "80": 00 80, since a first bit of 1 means a negative number
with_zero : is_mpint (0x00 ∷ 0x80 ∷ []) ≡ true
with_zero = refl

-- "-1234" is ed cc and "-deadbeef" is ff 21 52 41 11; no key has a negative number
negative : (is_mpint (0xed ∷ 0xcc ∷ []) ≡ false) × (is_mpint (0xff ∷ 0x21 ∷ 0x52 ∷ 0x41 ∷ 0x11 ∷ []) ≡ false)
negative = (refl, refl)

-- "Unnecessary leading bytes with the value 0 or 255 MUST NOT be included."
unneeded : is_mpint (0x00 ∷ 0x01 ∷ []) ≡ false
unneeded = refl

-- an Ed25519 key's blob (RFC 8709, section 4): string "ssh-ed25519", string key
blob_begins : (k : List ℕ) → key_text (plain (ed25519 k)) ≡ string_text (codes "ssh-ed25519") ++ string_text k
blob_begins k = refl

-- the names of RSA signatures (RFC 8332, section 3)
rsa_names : (e n : List ℕ) → (request_name (plain (rsa e n)) None ≡ codes "ssh-rsa") × (request_name (plain (rsa e n)) (Some Sha256) ≡ codes "rsa-sha2-256") × (request_name (plain (rsa e n)) (Some Sha512) ≡ codes "rsa-sha2-512")
unfolding request_name
rsa_names e n = (refl, refl, refl)

-- the names of certificates (OpenSSH's PROTOCOL.certkeys and PROTOCOL.u2f)
certificate_names : (certificate_name (kinds.Known known.Rsa) ≡ codes "ssh-rsa-cert-v01@openssh.com") × (certificate_name (kinds.Known known.SkEd25519) ≡ codes "sk-ssh-ed25519-cert-v01@openssh.com")
certificate_names = (refl, refl)

-- an algorithm with a domain has the mark before its `@`
opaque_certificate : certificate_name (kinds.Opaque (codes "ssh-new@example.com")) ≡ codes "ssh-new-cert-v01@example.com"
unfolding parted
opaque_certificate = refl

-- the code's numbers of the agent's protocol are the draft's
agent_numbers :
    (code.FAILURE ≡ standard.FAILURE) × (code.SUCCESS ≡ standard.SUCCESS)
    × (code.REQUEST_IDENTITIES ≡ standard.REQUEST_IDENTITIES)
    × (code.IDENTITIES_ANSWER ≡ standard.IDENTITIES_ANSWER) × (code.SIGN_REQUEST ≡ standard.SIGN_REQUEST)
    × (code.SIGN_RESPONSE ≡ standard.SIGN_RESPONSE) × (code.ADD_IDENTITY ≡ standard.ADD_IDENTITY)
    × (code.REMOVE_IDENTITY ≡ standard.REMOVE_IDENTITY)
    × (code.REMOVE_ALL_IDENTITIES ≡ standard.REMOVE_ALL_IDENTITIES)
    × (code.ADD_SMARTCARD_KEY ≡ standard.ADD_SMARTCARD_KEY)
    × (code.REMOVE_SMARTCARD_KEY ≡ standard.REMOVE_SMARTCARD_KEY) × (code.LOCK ≡ standard.LOCK)
    × (code.UNLOCK ≡ standard.UNLOCK) × (code.ADD_ID_CONSTRAINED ≡ standard.ADD_ID_CONSTRAINED)
    × (code.ADD_SMARTCARD_KEY_CONSTRAINED ≡ standard.ADD_SMARTCARD_KEY_CONSTRAINED)
    × (code.EXTENSION ≡ standard.EXTENSION) × (code.EXTENSION_RESPONSE ≡ standard.EXTENSION_RESPONSE)
    × (code.CONSTRAIN_LIFETIME ≡ standard.CONSTRAIN_LIFETIME)
    × (code.CONSTRAIN_CONFIRM ≡ standard.CONSTRAIN_CONFIRM)
    × (code.CONSTRAIN_EXTENSION ≡ standard.CONSTRAIN_EXTENSION)
    × (code.SSH_AGENT_RSA_SHA2_256 ≡ standard.SSH_AGENT_RSA_SHA2_256)
    × (code.SSH_AGENT_RSA_SHA2_512 ≡ standard.SSH_AGENT_RSA_SHA2_512)
    × (code.MAX_AGENT_FRAME_LEN ≡ standard.MAX_AGENT_FRAME_LEN)
agent_numbers = (refl, refl, refl, refl, refl, refl, refl, refl, refl, refl, refl, refl, refl, refl, refl, refl, refl, refl, refl, refl, refl, refl, refl)
