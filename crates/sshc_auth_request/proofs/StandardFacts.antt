-- Worked bytes of the requests that authenticate a user, computed from the definitions: the request of a key, the bytes that it
-- signs (RFC 4252, section 7), and the bytes of which a MIC is made (RFC 4462, section 3.5).
use Rattle.std.proofs.Common.{◌≡◌, ℕ, List, [], ◌∷◌, ◌++◌, None, refl}
use Rattle.std.specs.Prelude.{codes}
use Rattle.sshc_wire.specs.Wire.{string_text, u32_text}
use Rattle.sshc_key.specs.KeyGrammar.{ed25519, plain}
use Rattle.sshc_key.specs.RequestNames.{request_name}
use Rattle.sshc_auth_event.specs.declared.method.Method.TheVariants as methods
use Rattle.sshc_auth_request.specs.RequestTexts.{gssapi_mic, mic, request, signed, unsigned_request}

-- the user "ana" and the connection service, as each request begins
abbrev head : List ℕ
head = 50 ∷ 0 ∷ 0 ∷ 0 ∷ 3 ∷ 97 ∷ 110 ∷ 97 ∷ (0 ∷ 0 ∷ 0 ∷ 14 ∷ []) ++ codes "ssh-connection"

-- the method "publickey"
abbrev key_method : List ℕ
key_method = (0 ∷ 0 ∷ 0 ∷ 9 ∷ []) ++ codes "publickey"

-- the blob of an Ed25519 key of two bytes
abbrev blob : List ℕ
blob = (0 ∷ 0 ∷ 0 ∷ 21 ∷ []) ++ (0 ∷ 0 ∷ 0 ∷ 11 ∷ []) ++ codes "ssh-ed25519" ++ (0 ∷ 0 ∷ 0 ∷ 2 ∷ 7 ∷ 9 ∷ [])

-- "boolean FALSE, string public key algorithm name, string public key blob": asks whether the key is acceptable
key_asked : request (codes "ana") (methods.FuturePublicKey (plain (ed25519 (7 ∷ 9 ∷ [])), codes "work") None)
    ≡ head ++ key_method ++ 0 ∷ (0 ∷ 0 ∷ 0 ∷ 11 ∷ []) ++ codes "ssh-ed25519" ++ blob
unfolding request string_text u32_text request_name
key_asked = refl

-- "string session identifier, byte SSH_MSG_USERAUTH_REQUEST, .. boolean TRUE, .."
signed_bytes : signed (0xa1 ∷ 0xb2 ∷ 0xc3 ∷ []) (codes "ana") (plain (ed25519 (7 ∷ 9 ∷ []))) None
    ≡ (0 ∷ 0 ∷ 0 ∷ 3 ∷ 0xa1 ∷ 0xb2 ∷ 0xc3 ∷ []) ++ head ++ key_method ++ 1 ∷ (0 ∷ 0 ∷ 0 ∷ 11 ∷ []) ++ codes "ssh-ed25519" ++ blob
unfolding signed unsigned_request string_text u32_text request_name
signed_bytes = refl

-- "string session identifier, byte SSH_MSG_USERAUTH_REQUEST, string user name, string service, string "gssapi-with-mic""
mic_bytes : mic (0xa1 ∷ 0xb2 ∷ 0xc3 ∷ []) (codes "ana")
    ≡ (0 ∷ 0 ∷ 0 ∷ 3 ∷ 0xa1 ∷ 0xb2 ∷ 0xc3 ∷ []) ++ head ++ (0 ∷ 0 ∷ 0 ∷ 15 ∷ []) ++ codes "gssapi-with-mic"
unfolding mic string_text u32_text
mic_bytes = refl

-- 66, and the MIC as a string
mic_packet : gssapi_mic (0xd4 ∷ 0xe5 ∷ []) ≡ 66 ∷ 0 ∷ 0 ∷ 0 ∷ 2 ∷ 0xd4 ∷ 0xe5 ∷ []
unfolding gssapi_mic string_text u32_text
mic_packet = refl
