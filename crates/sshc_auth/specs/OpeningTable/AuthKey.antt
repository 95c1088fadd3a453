-- The row of phase Auth for keys: the server would take the key, and the request is signed (RFC 4252, section 7).
use Rattle.std.specs.Prelude.{ℕ, Bool, true, false, List, [], ◌∷◌, Option, Some, None, if◌then◌else◌}
use Rattle.sshc_wire.specs.Reads.{string_at, text_at}
use Rattle.sshc_wire.specs.declared.auth_record.AuthRecord.{AuthRecord}
use Rattle.sshc_wire.specs.declared.auth_record.AuthRecord.TheVariants.{SignRequest, SignRequestCert}
use Rattle.sshc_wire.specs.declared.hash_alg.HashAlg.{HashAlg}
use Rattle.sshc_wire.specs.declared.record.Record.TheVariants.{Auth, Payload}
use Rattle.sshc_key.specs.Asking.{Answer, Asking, SignRequest as Question, asks, done}
use Rattle.sshc_key.specs.KeyGrammar.{Key, key_text}
use Rattle.sshc_key.specs.PairCode.{KeyPair}
use Rattle.sshc_key.specs.declared.signer.Asker.TheVariants as askers
use Rattle.sshc_auth_event.specs.declared.method.Method.{Method}
use Rattle.sshc_auth_event.specs.declared.method.Method.TheVariants as methods
use Rattle.sshc_auth.specs.declared.error.Error.TheVariants.{SignerFault}
use Rattle.sshc_auth.specs.declared.opening.Phase.TheVariants.{AwaitSignature}
use Rattle.sshc_auth.specs.OpeningState.{OpeningState}
use Rattle.sshc_auth_request.specs.RequestTexts.{signed, signed_request}
use Rattle.sshc_auth.specs.Row.{Row, goes, refused, with_part, broken_row}

-- the method was answered, and isn't stored any more
abbrev pub taken : OpeningState → OpeningState
taken s = record s { method = None }

-- ---- by the local signer

abbrev pub sign_question : OpeningState → KeyPair → Key → Option HashAlg → Question
sign_question s pair key hash = record { by = askers.Session; key = pair; hash = hash; bytes = signed s.session_id s.user key hash }

-- the signed request, or the signer's refusal
abbrev pub signed_by_row : OpeningState → Key → Option HashAlg → Answer → Row
signed_by_row s key hash None = refused SignerFault
signed_by_row s key hash (Some signature) = goes (Payload (signed_request s.user key hash signature) ∷ []) (taken s)

abbrev pub sign_row : OpeningState → KeyPair → Key → Option HashAlg → Asking Row
sign_row s pair key hash = asks (sign_question s pair key hash) (λ answer. done (signed_by_row s key hash answer))

-- ---- by an outside signer

-- the bytes are handed out, and the answer is awaited
abbrev pub hand_out_row : OpeningState → AuthRecord → List ℕ → Row
hand_out_row s asked bytes = goes (Auth s.ticket asked ∷ []) (record (taken s) { phase = AwaitSignature; handed = bytes })

abbrev pub ask_key_row : OpeningState → Key → Option HashAlg → Row
ask_key_row s key hash = let bytes = signed s.session_id s.user key hash in hand_out_row s (SignRequest (key_text key) hash bytes) bytes

abbrev pub ask_certificate_row : OpeningState → Key → Option HashAlg → Row
ask_certificate_row s cert hash = let bytes = signed s.session_id s.user cert hash in hand_out_row s (SignRequestCert (key_text cert) hash bytes) bytes

-- ---- the row

-- by the stored method, which is cleared; a method without a key has no other effect
unfoldable pub key_row : OpeningState → Option Method → Asking Row
key_row s (Some (methods.PublicKey key)) = sign_row s key.0 key.0.public.0 key.1
key_row s (Some (methods.OpenSshCertificate key cert)) = sign_row s key cert None
key_row s (Some (methods.FuturePublicKey key hash)) = done (ask_key_row s key.0 hash)
key_row s (Some (methods.FutureCertificate cert hash)) = done (ask_certificate_row s cert hash)
key_row s method = done (goes [] (taken s))

-- the two parts of the packet, and nothing after them
abbrev pub is_at_end : List ℕ → Bool
is_at_end [] = true
is_at_end (b ∷ left) = false

abbrev pub is_pk_ok_body : List ℕ → Bool
is_pk_ok_body body =
    with_part false (text_at body) (λ algorithm rest.
    with_part false (string_at rest) (λ blob left.
    is_at_end left))

-- 60, USERAUTH_PK_OK (RFC 4252, section 7): the algorithm's name and the key's blob, which aren't compared with those
-- asked for, end
unfoldable pub pk_ok_row : OpeningState → List ℕ → Asking Row
pk_ok_row s body = if is_pk_ok_body body then key_row s s.method else done broken_row
