-- What each step of the opening satisfies, stated in terms of the session (RFC 4252, section 7; RFC 4253, sections 7, 8
-- and 10): the first exchange, the session id, what is signed, and whose request is stored. No row of the table is
-- named, so that an error made both in the table and in the code shows.
use Rattle.std.specs.Prelude.{◌≡◌, ◌≢◌, ◌⊎◌, ℕ, true, false, List, [], ◌∷◌, ◌++◌, Option, Some, None, Ok}
use Rattle.std.specs.List.{AllByRecursion}
use Rattle.sshc_wire.specs.Records.{IsPayload}
use Rattle.sshc_wire.specs.declared.auth_record.AuthRecord.TheVariants.{SignRequest, SignRequestCert}
use Rattle.sshc_wire.specs.declared.hash_alg.HashAlg.{HashAlg}
use Rattle.sshc_wire.specs.declared.record.Record.{Record}
use Rattle.sshc_wire.specs.declared.record.Record.TheVariants.{Auth, AuthBanner, KexDone}
use Rattle.sshc_key.specs.KeyGrammar.{key_text}
use Rattle.sshc_key.specs.PairCode.{KeyPair}
use Rattle.sshc_key.specs.Signers.{SignCall}
use Rattle.sshc_key.specs.declared.identity.PublicKeyOrCertificate.{PublicKeyOrCertificate}
use Rattle.sshc_key.specs.declared.signer.Asker.TheVariants.{Session}
use Rattle.sshc_auth_event.specs.HostKey.{host_key}
use Rattle.sshc_auth_event.specs.declared.event.Event.{Event}
use Rattle.sshc_auth_event.specs.declared.event.Event.TheVariants as events
use Rattle.sshc_auth_event.specs.declared.method.Method.{Method}
use Rattle.sshc_auth_event.specs.declared.method.Method.TheVariants as methods
use Rattle.sshc_auth_request.specs.RequestTexts.{signed}
use Rattle.sshc_transport.specs.declared.exchange.ExchangeFlag.TheVariants as flags
use Rattle.sshc_transport.specs.declared.exchange.ExchangeKey.{ExchangeKey}
use Rattle.sshc_transport.specs.declared.exchange.ExchangeResult.{ExchangeResult}
use Rattle.sshc_auth.specs.declared.opening.Phase.{Phase}
use Rattle.sshc_auth.specs.declared.opening.Phase.TheVariants as phases
use Rattle.sshc_auth.specs.declared.step.Asks.{Asks}
use Rattle.sshc_auth.specs.declared.step.Asks.TheVariants as asking
use Rattle.sshc_auth.specs.declared.step.Step.{Step}
use Rattle.sshc_auth.specs.declared.step.Step.TheVariants as steps
use Rattle.sshc_auth.specs.Causes.{IsKeptKey}
use Rattle.sshc_auth.specs.OpeningAnswers.{AddsAnswers}
use Rattle.sshc_auth.specs.OpeningState.{OpeningState}
use Rattle.sshc_auth.specs.Stepping.{Lent, GateAnswers, gained}

-- ---- records that were added

-- this holds of every record that a step added
abbrev pub AddsOnly : (Record → Type 0) → Lent → Lent → Type 0
AddsOnly P was is = (more : List Record) × (is.outbox.records ≡ was.outbox.records ++ more) × AllByRecursion P more

-- a record that isn't for the transport
abbrev pub IsNoPacket : Record → Type 0
IsNoPacket output = IsPayload output → ⊥

-- what is kept of the state before the step: its phase, the session id, the host key, and the request that is stored
pub record Kept : Type 0 where
  pub phase : Phase
  pub session_id : List ℕ
  pub host_key : ExchangeKey
  pub user : List ℕ
  pub method : Option Method

abbrev pub kept_of : OpeningState → Kept
kept_of s = record { phase = s.phase; session_id = s.session_id; host_key = s.host_key; user = s.user; method = s.method }

-- ---- the first exchange

-- the first exchange runs
pub record IsFirst (s : OpeningState) : Type 0 where
  pub exchanging : s.phase ≡ phases.Exchanging
  pub runs : s.flag ≢ flags.Idle
  pub fresh : s.closed ≡ false

-- it is still running, or the session is over
abbrev pub GoesOnFirst : {E : Type 0} → OpeningState → Step E → Type 0
GoesOnFirst s steps.Went = IsFirst s
GoesOnFirst s steps.Opened = ⊥
GoesOnFirst s result = s.phase ≡ phases.Exchanging

-- an exchange is done whose host key is there and which the gate accepts; its hash is the session id and its host key
-- the session's from now on
pub record AcceptsFirst {E : Type 0} (gate : GateAnswers E) (event : Event) (s : OpeningState) : Type 0 where
  pub exchange : ExchangeResult
  pub is_done : event ≡ events.ExchangeDone exchange
  pub key : PublicKeyOrCertificate
  pub is_there : host_key exchange.key ≡ Some key
  pub accepted : gate.judges key (Ok true)
  pub session_id : s.session_id ≡ exchange.session_hash
  pub kept : s.host_key ≡ exchange.key

-- while the first exchange runs no packet is written, and the session gets past it only with a host key that the gate
-- accepts
pub record KeepsFirst {E : Type 0} (gate : GateAnswers E) (event : Event) (was is : Lent) (result : Step E) : Type 0 where
  pub unwritten : AddsOnly IsNoPacket was is
  pub behind : GoesOnFirst is.opening result ⊎ AcceptsFirst gate event is.opening

-- after the first exchange the session id and the host key stay, and no first exchange comes again
abbrev pub KeepsSession : Kept → OpeningState → Type 0
KeepsSession s t =
    s.phase ≢ phases.Exchanging → (◌≡◌ {A = List ℕ × ExchangeKey} (t.session_id, t.host_key) (s.session_id, s.host_key)) × (t.phase ≢ phases.Exchanging)

-- the session continues
abbrev pub Continues : {E : Type 0} → Step E → Type 0
Continues steps.Went = Unit {0}
Continues steps.Opened = Unit {0}
Continues result = ⊥

-- an event that is an exchange has the session's host key
abbrev pub HasKeptKey : OpeningState → Event → Type 0
HasKeptKey s (events.ExchangeDone x) = IsKeptKey s x.key
HasKeptKey s event = Unit {0}

-- after the first exchange the session continues behind another exchange only with the same host key
abbrev pub KeepsKey : {E : Type 0} → Event → OpeningState → Step E → Type 0
KeepsKey event s result = s.phase ≢ phases.Exchanging → Continues result → HasKeptKey s event

-- ---- what is signed

-- the bytes are the signed text of the session id, the user and the key of the stored request, whose pair is local
abbrev pub SignsStored : Option Method → Kept → KeyPair → Option HashAlg → List ℕ → Type 0
SignsStored (Some (methods.PublicKey key)) s pair hash bytes = (pair ≡ key.0) × (hash ≡ key.1) × (bytes ≡ signed s.session_id s.user key.0.public.0 key.1)
SignsStored (Some (methods.OpenSshCertificate key cert)) s pair hash bytes = (pair ≡ key) × (hash ≡ None) × (bytes ≡ signed s.session_id s.user cert None)
SignsStored method s pair hash bytes = ⊥

-- the same where an outside signer has the pair
abbrev pub HandsKey : Option Method → Kept → List ℕ → Option HashAlg → List ℕ → Type 0
HandsKey (Some (methods.FuturePublicKey key own)) s blob hash bytes = (blob ≡ key_text key.0) × (hash ≡ own) × (bytes ≡ signed s.session_id s.user key.0 own)
HandsKey method s blob hash bytes = ⊥

abbrev pub HandsCertificate : Option Method → Kept → List ℕ → Option HashAlg → List ℕ → Type 0
HandsCertificate (Some (methods.FutureCertificate cert own)) s blob hash bytes = (blob ≡ key_text cert) × (hash ≡ own) × (bytes ≡ signed s.session_id s.user cert own)
HandsCertificate method s blob hash bytes = ⊥

-- bytes that are handed out to be signed are those of the stored request
abbrev pub HandsStored : Kept → Record → Type 0
HandsStored s (Auth ticket (SignRequest blob hash bytes)) = HandsKey s.method s blob hash bytes
HandsStored s (Auth ticket (SignRequestCert blob hash bytes)) = HandsCertificate s.method s blob hash bytes
HandsStored s output = Unit {0}

-- a record that hands out no bytes to be signed
abbrev pub HandsNothing : Record → Type 0
HandsNothing (Auth ticket (SignRequest blob hash bytes)) = ⊥
HandsNothing (Auth ticket (SignRequestCert blob hash bytes)) = ⊥
HandsNothing output = Unit {0}

-- the request isn't stored any more, or the session is over
abbrev pub IsSettled : OpeningState → Type 0
IsSettled s = (s.method ≡ None) ⊎ (s.closed ≡ true)

-- no call, or one for the stored request, which is settled by it
abbrev pub AsksOnce : Kept → OpeningState → List SignCall → Type 0
AsksOnce s t [] = Unit {0}
AsksOnce s t (call ∷ []) = (call.by ≡ Session) × SignsStored s.method s call.key call.hash call.bytes × IsSettled t
AsksOnce s t (call ∷ other ∷ calls) = ⊥

-- where a record hands out bytes, the signer isn't asked too, the request is settled, and no later record does
abbrev pub HandsLast : OpeningState → List SignCall → Record → List Record → Type 0
HandsLast t calls (Auth ticket (SignRequest blob hash bytes)) later = (calls ≡ []) × IsSettled t × AllByRecursion HandsNothing later
HandsLast t calls (Auth ticket (SignRequestCert blob hash bytes)) later = (calls ≡ []) × IsSettled t × AllByRecursion HandsNothing later
HandsLast t calls output later = Unit {0}

-- bytes are handed out once at most
abbrev pub HandsOnce : OpeningState → List SignCall → List Record → Type 0
HandsOnce t calls [] = Unit {0}
HandsOnce t calls (output ∷ later) = HandsLast t calls output later × HandsOnce t calls later

-- the same of the records that a step added
abbrev pub AddsHandedOnce : List SignCall → Lent → Lent → Type 0
AddsHandedOnce calls was is = (more : List Record) × (is.outbox.records ≡ was.outbox.records ++ more) × HandsOnce is.opening calls more

-- ---- whose request is stored

-- the event asks to authenticate, and its request is stored
abbrev pub Stores : Event → OpeningState → Type 0
Stores (events.Authenticate ticket user method) t = (t.user ≡ user) × (t.method ≡ Some method)
Stores event t = ⊥

-- the request stays or is taken out, or that of the event takes its place
abbrev pub KeepsRequest : Kept → Event → OpeningState → Type 0
KeepsRequest s event t = ((t.user ≡ s.user) × ((t.method ≡ s.method) ⊎ (t.method ≡ None))) ⊎ Stores event t

-- ---- what the gate is notified of

-- the record that says it: 20 of an exchange, 21 of a banner
abbrev pub reported : Asks → Option ExchangeResult → Option Record
reported asking.Nothing x = None
reported (asking.Banner text) x = Some (AuthBanner text)
reported (asking.HostKey key) (Some x) = Some (KexDone x.names.kex)
reported asking.Exchange (Some x) = Some (KexDone x.names.kex)
reported asks None = None

-- it is among the records that were added
abbrev pub IsReported : Option Record → Lent → Lent → Type 0
IsReported None was is = Unit {0}
IsReported (Some output) was is = (before after : List Record) × (is.outbox.records ≡ was.outbox.records ++ (before ++ (output ∷ after)))

-- ---- what a step satisfies

pub record KeepsTo {E : Type 0} (gate : GateAnswers E) (event : Event) (was is : Lent) (result : Step E) : Type 0 where
  -- no packet before the host key of the first exchange is accepted
  pub first : IsFirst was.opening → KeepsFirst gate event was is result
  -- the session id is the first exchange's hash, and the host key is its key
  pub session : KeepsSession (kept_of was.opening) is.opening
  -- a later exchange has the same host key
  pub key : KeepsKey event was.opening result
  -- the signer is asked once at most, for the signed text of the stored request
  pub asked : AsksOnce (kept_of was.opening) is.opening (gained was is)
  -- what an outside signer is handed is the signed text of the stored request
  pub handed : AddsOnly (HandsStored (kept_of was.opening)) was is
  -- it is handed that once at most, and then the signer isn't asked, and the request isn't stored any more
  pub once : AddsHandedOnce (gained was is) was is
  -- the request that is stored is that of an event
  pub request : KeepsRequest (kept_of was.opening) event is.opening
  -- what is answered is what the event says: success and failure of a login, banners, prompts, who waits
  pub answers : AddsAnswers event was is result
