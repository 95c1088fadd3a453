-- 13, SIGN_REQUEST (draft-miller-ssh-agent, section 3.6): the blob of a key, the bytes to sign, flags.
use Rattle.std.specs.Prelude.{ℕ, not, List, [], ◌∷◌, Option, Some, None, Result, Ok, Err, bit_and, ◌==◌, if◌then◌else◌}
use Rattle.std.specs.Int.{w32}
use Rattle.sshc_wire.specs.declared.error.WireError.{WireError}
use Rattle.sshc_wire.specs.declared.hash_alg.HashAlg.{HashAlg}
use Rattle.sshc_wire.specs.declared.hash_alg.HashAlg.TheVariants.{Sha256, Sha512}
use Rattle.sshc_wire.specs.Reads.{number_at, string_at}
use Rattle.sshc_wire.specs.Wire.{string_text}
use Rattle.sshc_key.specs.declared.signer.Asker.TheVariants.{Agent}
use Rattle.sshc_key.specs.Asking.{Answer, Asking, asks, done}
use Rattle.sshc_key.specs.KeyGrammar.{Key, plain, rsa}
use Rattle.sshc_agent_core.specs.declared.connections.Standing.TheVariants.{Open, Closed, KeyAsked}
use Rattle.sshc_agent_core.specs.declared.input.AgentOutput.TheVariants as outputs
use Rattle.sshc_agent_core.specs.declared.input.Cause.TheVariants.{Unreadable, SignerRefused}
use Rattle.sshc_agent_core.specs.declared.key_list.HeldKey.{HeldKey}
use Rattle.sshc_key.specs.AgentNumbers.{SIGN_REQUEST, SIGN_RESPONSE, SSH_AGENT_RSA_SHA2_256, SSH_AGENT_RSA_SHA2_512}
use Rattle.sshc_agent_core.specs.AgentList.{AgentList, standing}
use Rattle.sshc_agent_core.specs.KeyList.{held}
use Rattle.sshc_agent_core.specs.Turn.{Outcome, Turn, closes, fails, frame, says, signs}

-- a key that requires a confirmation is asked about; any other key signs
abbrev pub held_turn : Option HeldKey → List ℕ → List ℕ → AgentList → Turn
held_turn None rest whole l = fails l
held_turn (Some key) rest whole l = if key.constraints.confirm then says l (KeyAsked whole) (outputs.AskKey key.blob) else signs l key rest

abbrev pub sign_request_in : Result (List ℕ × List ℕ) WireError → List ℕ → AgentList → Turn
sign_request_in (Err e) whole l = closes l Unreadable
sign_request_in (Ok blob) whole l = held_turn (held l.keys blob.0) blob.1 whole l

-- a blob that can't be read closes the connection; a blob of a key that isn't held is answered with FAILURE
unfoldable pub sign_request_turn : List ℕ → List ℕ → AgentList → Turn
sign_request_turn body whole l = sign_request_in (string_at body) whole l

-- the confirmed key signs, if it is still held
abbrev pub held_still : Option HeldKey → List ℕ → AgentList → Turn
held_still None rest l = fails l
held_still (Some key) rest l = signs l key rest

abbrev pub confirmed_in : Result (List ℕ × List ℕ) WireError → AgentList → Turn
confirmed_in (Err e) l = fails l
confirmed_in (Ok blob) l = held_still (held l.keys blob.0) blob.1 l

-- only a sign request asks for a confirmation
unfoldable pub confirmed_turn : List ℕ → AgentList → Turn
confirmed_turn [] l = fails l
confirmed_turn (number ∷ body) l = if number == SIGN_REQUEST then confirmed_in (string_at body) l else fails l

-- ---- the signature

-- the hash that the flags ask for; flag 2 is tested first
abbrev pub flagged_hash : ℕ → Option HashAlg
flagged_hash flags =
    if not (bit_and flags SSH_AGENT_RSA_SHA2_256 == 0) then Some Sha256
    else (if not (bit_and flags SSH_AGENT_RSA_SHA2_512 == 0) then Some Sha512 else None)

-- only an RSA key has a hash
abbrev pub hash_of : Key → ℕ → Option HashAlg
hash_of (plain (rsa e n)) flags = flagged_hash flags
hash_of key flags = None

-- the signer refused, which closes the connection, or its signature is the answer
abbrev pub signed_row : ℕ → AgentList → Answer → Asking Outcome
signed_row conn l None = done (record { next = standing conn Closed l; output = outputs.Closed SignerRefused })
signed_row conn l (Some signature) = done (record { next = standing conn Open l; output = frame (SIGN_RESPONSE ∷ string_text signature) })

abbrev pub unreadable_row : ℕ → AgentList → Asking Outcome
unreadable_row conn l = done (record { next = standing conn Closed l; output = outputs.Closed Unreadable })

-- the signer is asked to sign the bytes with the key
abbrev pub asked_row : ℕ → AgentList → HeldKey → List ℕ → ℕ → Asking Outcome
asked_row conn l key bytes flags =
    asks (record { by = Agent conn; key = key.pair; hash = hash_of key.pair.public.0 flags; bytes = bytes }) (λ answer. signed_row conn l answer)

abbrev pub flags_row : Result (ℕ × List ℕ) WireError → List ℕ → ℕ → AgentList → HeldKey → Asking Outcome
flags_row (Err e) bytes conn l key = unreadable_row conn l
flags_row (Ok flags) bytes conn l key = asked_row conn l key bytes flags.0

abbrev pub bytes_row : Result (List ℕ × List ℕ) WireError → ℕ → AgentList → HeldKey → Asking Outcome
bytes_row (Err e) conn l key = unreadable_row conn l
bytes_row (Ok bytes) conn l key = flags_row (number_at w32 bytes.1) bytes.0 conn l key

-- the signer is asked to sign with the key what follows its blob; bytes or flags that can't be read close the connection
unfoldable pub sign_row : ℕ → AgentList → HeldKey → List ℕ → Asking Outcome
sign_row conn l key rest = bytes_row (string_at rest) conn l key
