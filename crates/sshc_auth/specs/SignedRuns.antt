-- Over many steps (RFC 4252, section 7): what the session asks the signer to sign, or hands out to be signed, is the signed
-- text of a session id and of the user and key of a request that an earlier event asked for. Stated of one step, after
-- the events before it.
use Rattle.std.proofs.Common.{◌≡◌, ◌⊎◌, ℕ, List, [], ◌∷◌, Option, Some, None}
use Rattle.sshc_wire.specs.declared.auth_record.AuthRecord.TheVariants.{SignRequest, SignRequestCert}
use Rattle.sshc_wire.specs.declared.record.Record.{Record}
use Rattle.sshc_wire.specs.declared.record.Record.TheVariants.{Auth}
use Rattle.sshc_key.specs.Signers.{SignCall}
use Rattle.sshc_key.specs.declared.signer.Asker.TheVariants.{Session}
use Rattle.sshc_transport.specs.declared.exchange.ExchangeKey.TheVariants.{Missing}
use Rattle.sshc_auth_event.specs.declared.event.Event.{Event}
use Rattle.sshc_auth_event.specs.declared.event.Event.TheVariants as events
use Rattle.sshc_auth_event.specs.declared.method.Method.{Method}
use Rattle.sshc_auth.specs.declared.opening.Phase.TheVariants as phases
use Rattle.sshc_auth.specs.SessionWords.{Kept, HandsCertificate, HandsKey, SignsStored}

-- ---- each call is of a request that was asked for

-- one of the events asks for this request
abbrev pub HasRequest : List Event → List ℕ → Method → Type 0
HasRequest [] user method = ⊥
HasRequest (events.Authenticate ticket own asked ∷ past) user method = ((own ≡ user) × (asked ≡ method)) ⊎ HasRequest past user method
HasRequest (event ∷ past) user method = HasRequest past user method

-- of a request, with a session id
abbrev pub request_of : List ℕ → List ℕ → Method → Kept
request_of id user method = record { phase = phases.Auth; session_id = id; host_key = Missing; user = user; method = Some method }

-- the call is the session's, for the signed text of the session id and of a request among the events
abbrev pub IsSignedFor : List ℕ → List Event → SignCall → Type 0
IsSignedFor id past call =
    (call.by ≡ Session) × ((user : List ℕ) × (method : Method) × HasRequest past user method × SignsStored (Some method) (request_of id user method) call.key call.hash call.bytes)

-- the request that is stored, if one is, was asked for
abbrev pub IsAskedFor : List Event → List ℕ → Option Method → Type 0
IsAskedFor past user None = Unit {0}
IsAskedFor past user (Some method) = HasRequest past user method

-- ---- and so is what is handed out to be signed

-- a record's bytes to be signed are the signed text of the session id and of a request among the events
abbrev pub IsHandedFor : List ℕ → List Event → Record → Type 0
IsHandedFor id past (Auth ticket (SignRequest blob hash bytes)) =
    (user : List ℕ) × (method : Method) × HasRequest past user method × HandsKey (Some method) (request_of id user method) blob hash bytes
IsHandedFor id past (Auth ticket (SignRequestCert blob hash bytes)) =
    (user : List ℕ) × (method : Method) × HasRequest past user method × HandsCertificate (Some method) (request_of id user method) blob hash bytes
IsHandedFor id past output = Unit {0}
