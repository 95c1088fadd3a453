-- A call's result for a whole answer of the agent, which comes without its length (draft-miller-ssh-agent, section 3).
-- Each reading is a function of the whole answer; its result is a value or the first fault in the order of the fields;
-- the code moves a cursor.
-- Bytes after the fields are ignored.
use Rattle.std.specs.Prelude.{ℕ, Bool, true, ◌||◌, List, [], ◌∷◌, ◌++◌, Option, Some, None, Result, Ok, Err, bytes_eq, codes, ◌==◌, if◌then◌else◌}
use Rattle.base64.specs.Engines.{standard_no_pad}
use Rattle.base64.specs.GeneralPurpose.{encode_of}
use Rattle.sshc_wire.specs.declared.error.WireError.{WireError}
use Rattle.sshc_wire.specs.declared.hash_alg.HashAlg.{HashAlg}
use Rattle.sshc_wire.specs.declared.hash_alg.HashAlg.TheVariants.{Sha256, Sha512}
use Rattle.sshc_wire.specs.Counted.{times_at}
use Rattle.sshc_wire.specs.Reads.{Reader, string_at, ◌>>=◌}
use Rattle.sshc_wire.specs.Whole.{whole_at}
use Rattle.sshc_wire.specs.Wire.{string_text}
use Rattle.sshc_key.specs.declared.agent.AgentIdentity.{AgentIdentity}
use Rattle.sshc_key.specs.declared.agent.AgentIdentity.TheVariants as identities
use Rattle.sshc_key.specs.declared.error.Error.{Error}
use Rattle.sshc_key.specs.declared.error.Error.TheVariants.{AgentFailure, AgentProtocolError, SshEncoding}
use Rattle.sshc_key.specs.declared.signature.Signature.{Signature}
use Rattle.sshc_key.specs.KeyGrammar.{Key, plain, certificate}
use Rattle.sshc_key.specs.KeyReading.{octets_at, signature_at, u32_at, utf8_at}
use Rattle.sshc_key.specs.Nesting.{blob_key, key_or_fault}
use Rattle.sshc_key.specs.AgentNumbers.{FAILURE, SUCCESS, IDENTITIES_ANSWER, SIGN_RESPONSE, EXTENSION_RESPONSE}

-- ---- acknowledgements

abbrev pub acknowledged : Bool → Result (Unit {0}) Error
acknowledged granted = if granted then Ok tt else Err AgentFailure

-- SUCCESS acknowledges; any other answer is a failure
unfoldable pub success_reading : List ℕ → Result (Unit {0}) Error
success_reading [] = Err AgentFailure
success_reading (kind ∷ body) = acknowledged (kind == SUCCESS)

-- for an extension, EXTENSION_RESPONSE does too
unfoldable pub extension_reading : List ℕ → Result (Unit {0}) Error
extension_reading [] = Err AgentFailure
extension_reading (kind ∷ body) = acknowledged ((kind == SUCCESS) || (kind == EXTENSION_RESPONSE))

-- the string after SUCCESS, if there is one
abbrev pub string_found : Result (List ℕ × List ℕ) WireError → Option (List ℕ)
string_found (Err e) = None
string_found (Ok text) = Some text.0

unfoldable pub query_reading : List ℕ → Option (List ℕ)
query_reading [] = None
query_reading (kind ∷ body) = if kind == SUCCESS then string_found (string_at body) else None

-- ---- the keys that an agent holds

abbrev pub identity_of : Key → List ℕ → AgentIdentity
identity_of (plain k) comment = identities.PublicKey (plain k, []) comment
identity_of (certificate nonce key says signer signature) comment = identities.Certificate (certificate nonce key says signer signature) comment

-- a blob and its comment; the blob is read as a key once the comment is read
unfoldable pub identity_at : Reader Error AgentIdentity
identity_at bytes = octets_at bytes >>= λ blob. utf8_at blob.1 >>= λ comment. key_or_fault (blob_key blob.0) >>= λ key. Ok (identity_of key comment.0, comment.1)

-- a number, and that many keys
unfoldable pub listed : List ℕ → Result (List AgentIdentity) Error
listed body = u32_at body >>= λ count. times_at count.0 identity_at count.1 >>= λ found. Ok found.0

-- any other answer lists no keys
unfoldable pub identities_reading : List ℕ → Result (List AgentIdentity) Error
identities_reading [] = Ok []
identities_reading (kind ∷ body) = if kind == IDENTITIES_ANSWER then listed body else Ok []

-- ---- signatures

-- whether a signature of this name may answer a request that asked for this hash; any may if no hash was asked for
abbrev pub is_asked : Option HashAlg → List ℕ → Bool
is_asked None name = true
is_asked (Some Sha256) name = bytes_eq name (codes "rsa-sha2-256")
is_asked (Some Sha512) name = bytes_eq name (codes "rsa-sha2-512")

-- one whole signature; its name is checked before the following fields are read
unfoldable pub asked_signature : Option HashAlg → List ℕ → Result Signature Error
asked_signature asked text = utf8_at text >>= λ name. if is_asked asked name.0 then whole_at SshEncoding signature_at text else Err AgentProtocolError

-- the string of the answer, if it holds such a signature
unfoldable pub signature_text_in : Option HashAlg → List ℕ → Result (List ℕ) Error
signature_text_in asked body = octets_at body >>= λ text. asked_signature asked text.0 >>= λ signature. Ok text.0

-- the bytes that were to be signed, followed by the signature as a string
unfoldable pub sign_reading : Option HashAlg → List ℕ → List ℕ → Result (List ℕ) Error
sign_reading asked bytes [] = Err AgentProtocolError
sign_reading asked bytes (kind ∷ body) =
    if kind == SIGN_RESPONSE then (signature_text_in asked body >>= λ text. Ok (bytes ++ string_text text))
    else (if kind == FAILURE then Err AgentFailure else Err AgentProtocolError)

-- the signature, whatever its name
unfoldable pub signature_reading : List ℕ → Result Signature Error
signature_reading [] = Err AgentProtocolError
signature_reading (kind ∷ body) = if kind == SIGN_RESPONSE then (octets_at body >>= λ text. asked_signature None text.0) else Err AgentProtocolError

-- the base64 without padding of what follows the answer's number; empty for any other answer
unfoldable pub base64_reading : List ℕ → List ℕ
base64_reading [] = []
base64_reading (kind ∷ body) = if kind == SIGN_RESPONSE then encode_of standard_no_pad body else []
