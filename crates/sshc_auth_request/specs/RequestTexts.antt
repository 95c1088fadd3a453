-- Request texts: the packets by which a user is authenticated (RFC 4252, sections 5, 7 and 8; RFC 4253, sections 10 and
-- 11.1; RFC 4256, sections 3.1 and 3.4; RFC 4462, section 3). Plain concatenations; the code appends part by part.
use Rattle.std.specs.Prelude.{ℕ, List, [], ◌∷◌, ◌++◌, length, Option, None, codes}
use Rattle.std.specs.List.{flat_map}
use Rattle.sshc_wire.specs.Wire.{u32_text, string_text}
use Rattle.sshc_wire.specs.Reasons.{disconnect_code}
use Rattle.sshc_wire.specs.declared.disconnect.Disconnect.{Disconnect}
use Rattle.sshc_wire.specs.MessageNumbers.{DISCONNECT, SERVICE_REQUEST, USERAUTH_REQUEST, USERAUTH_INFO_RESPONSE, USERAUTH_GSSAPI_TOKEN, USERAUTH_GSSAPI_EXCHANGE_COMPLETE, USERAUTH_GSSAPI_MIC}
use Rattle.sshc_key.specs.KeyGrammar.{Key, key_text}
use Rattle.sshc_wire.specs.declared.hash_alg.HashAlg.{HashAlg}
use Rattle.sshc_key.specs.declared.identity.PublicKeyOrCertificate.{PublicKeyOrCertificate}
use Rattle.sshc_key.specs.declared.identity.PublicKeyOrCertificate.TheVariants as identities
use Rattle.sshc_auth_event.specs.declared.method.Method.{Method}
use Rattle.sshc_auth_event.specs.declared.method.Method.TheVariants as methods
use Rattle.sshc_key.specs.RequestNames.{request_name}

-- 5, SERVICE_REQUEST (RFC 4253, section 10): the name of the service
unfoldable pub service_request : List ℕ
service_request = SERVICE_REQUEST ∷ string_text (codes "ssh-userauth")

-- the number of strings, and then the strings one after another
abbrev pub counted_strings : List (List ℕ) → List ℕ
counted_strings strings = u32_text (length strings) ++ flat_map string_text strings

-- a key in a request: 0 asks whether the key is acceptable, 1 comes with a signature (RFC 4252, section 7)
abbrev pub key_part : ℕ → Key → Option HashAlg → List ℕ
key_part flag key hash = string_text (codes "publickey") ++ (flag ∷ string_text (request_name key hash)) ++ string_text (key_text key)

-- a method's name and fields; a password isn't changed (RFC 4252, section 8), and no language is asked for (RFC 4256,
-- section 3.1)
abbrev pub method_text : Method → List ℕ
method_text methods.None = string_text (codes "none")
method_text (methods.Password password) = string_text (codes "password") ++ 0 ∷ string_text password
method_text (methods.PublicKey key) = key_part 0 key.0.public.0 key.1
method_text (methods.OpenSshCertificate key cert) = key_part 0 cert None
method_text (methods.FuturePublicKey key hash) = key_part 0 key.0 hash
method_text (methods.FutureCertificate cert hash) = key_part 0 cert hash
method_text (methods.KeyboardInteractive submethods) = string_text (codes "keyboard-interactive") ++ string_text [] ++ string_text submethods
method_text (methods.GssapiWithMic oids) = string_text (codes "gssapi-with-mic") ++ counted_strings oids

-- 50, USERAUTH_REQUEST (RFC 4252, section 5): user and service
abbrev pub request_head : List ℕ → List ℕ
request_head user = USERAUTH_REQUEST ∷ string_text user ++ string_text (codes "ssh-connection")

-- user, service, method
unfoldable pub request : List ℕ → Method → List ℕ
request user method = request_head user ++ method_text method

-- a request by key without its signature
unfoldable pub unsigned_request : List ℕ → Key → Option HashAlg → List ℕ
unsigned_request user key hash = request_head user ++ key_part 1 key hash

-- the bytes that are signed: the session id, followed by the request (RFC 4252, section 7)
unfoldable pub signed : List ℕ → List ℕ → Key → Option HashAlg → List ℕ
signed session_id user key hash = string_text session_id ++ unsigned_request user key hash

-- the signed request: the request, followed by the signature
abbrev pub signed_request : List ℕ → Key → Option HashAlg → List ℕ → List ℕ
signed_request user key hash signature = unsigned_request user key hash ++ string_text signature

-- a plain key is signed with its own hash, a certificate with this hash
abbrev pub signed_by : List ℕ → List ℕ → PublicKeyOrCertificate → Option HashAlg → List ℕ
signed_by session_id user (identities.PublicKey key own) hash = signed session_id user key.0 own
signed_by session_id user (identities.Certificate cert) hash = signed session_id user cert hash

-- the bytes of which a MIC is made (RFC 4462, section 3.5)
unfoldable pub mic : List ℕ → List ℕ → List ℕ
mic session_id user = string_text session_id ++ request_head user ++ string_text (codes "gssapi-with-mic")

-- 61, USERAUTH_INFO_RESPONSE (RFC 4256, section 3.4)
unfoldable pub info_response : List (List ℕ) → List ℕ
info_response responses = USERAUTH_INFO_RESPONSE ∷ counted_strings responses

-- 61, USERAUTH_GSSAPI_TOKEN (RFC 4462, section 3.4)
unfoldable pub gssapi_token : List ℕ → List ℕ
gssapi_token token = USERAUTH_GSSAPI_TOKEN ∷ string_text token

-- 63, USERAUTH_GSSAPI_EXCHANGE_COMPLETE, and 66, USERAUTH_GSSAPI_MIC (RFC 4462, section 3.5)
abbrev pub gssapi_complete : List ℕ
gssapi_complete = USERAUTH_GSSAPI_EXCHANGE_COMPLETE ∷ []

unfoldable pub gssapi_mic : List ℕ → List ℕ
gssapi_mic body = USERAUTH_GSSAPI_MIC ∷ string_text body

-- 1, DISCONNECT (RFC 4253, section 11.1): a reason, a text and its language
unfoldable pub disconnect : Disconnect → List ℕ → List ℕ → List ℕ
disconnect reason description language = DISCONNECT ∷ u32_text (disconnect_code reason) ++ string_text description ++ string_text language
