-- A login whose signatures the caller's own signer makes (RFC 4252, section 7): what the signer is asked, and what is
-- submitted for its answers. By relations between two moments; the code does one part after the other.
use Rattle.std.specs.Prelude.{◌≡◌, ◌≤◌, ◌⊎◌, ℕ, true, List, [], ◌∷◌, ◌++◌, Option, Some, None, Result, Ok, Err, Vec}
use Rattle.std.specs.Option.{option_map}
use Rattle.std.specs.declared.alloc.Global.{Global}
use Rattle.sshc_wire.specs.Faults.{Rose}
use Rattle.sshc_wire.specs.declared.auth_record.AuthRecord.TheVariants as asks
use Rattle.sshc_wire.specs.declared.hash_alg.HashAlg.{HashAlg}
use Rattle.sshc_wire.specs.declared.record.Record.{Record}
use Rattle.sshc_wire.specs.declared.record.Record.TheVariants.{Auth}
use Rattle.sshc_wire.specs.declared.ticket.Ticket.{Ticket}
use Rattle.sshc_key.specs.declared.agent.AgentIdentity.{AgentIdentity}
use Rattle.sshc_auth.specs.declared.auth_result.AuthResult.{AuthResult}
use Rattle.sshc_auth.specs.declared.error.Error.{Error}
use Rattle.sshc_auth.specs.declared.error.Error.TheVariants.{NoMemory}
use Rattle.sshc_client.specs.declared.message.Msg.{Msg}
use Rattle.sshc_client.specs.declared.message.Msg.TheVariants as msgs
use Rattle.sshc_handle_tickets.specs.Answers.{auth_answer}
use Rattle.sshc_handle_tickets.specs.Tickets.{is_of}
use Rattle.sshc_handle_calls.specs.declared.with_error.WithError.{WithError}
use Rattle.sshc_handle_calls.specs.declared.with_error.WithError.TheVariants.{Session, Signer}
use Rattle.sshc_handle_calls.specs.Asking.{Told}
use Rattle.sshc_handle_calls.specs.Lines.{Calls, IsDeclined, LineCall, gains, taken}
use Rattle.sshc_handle_calls.specs.Rounds.{Until, going_on, read_by}

-- ---- the calls of a signer

-- what it was asked to sign, and the answer; `None` where it refused
pub record SignerCall : Type 0 where
  pub key : AgentIdentity
  pub hash : Option HashAlg
  pub bytes : List ℕ
  pub answer : Option (List ℕ)

-- the calls of a signer, if they are known, and how often it refused
pub record SignerAt : Type 0 where
  pub calls : Option (List SignerCall)
  pub refusals : ℕ

abbrev pub signer_at : Option (List SignerCall) → ℕ → SignerAt
signer_at calls refusals = record { calls = calls; refusals = refusals }

abbrev pub and_call : Option (List SignerCall) → SignerCall → Option (List SignerCall)
and_call calls call = option_map (λ before. before ++ call ∷ []) calls

abbrev pub signature_in : {E : Type 0} → Result (Vec ℕ Global) E → Option (List ℕ)
signature_in (Ok v) = Some v.items
signature_in (Err e) = None

-- ---- one signature

-- the bytes that a record asks to be signed, if it asks for that
abbrev pub bytes_to_sign : Record → Option (List ℕ)
bytes_to_sign (Auth ticket (asks.SignRequest key hash_alg body)) = Some body
bytes_to_sign (Auth ticket (asks.SignRequestCert cert hash_alg body)) = Some body
bytes_to_sign output = None

-- the answer is submitted; without one, or without memory for it, the login is given up. The signer's error comes only
-- with a refusal
abbrev pub SubmitsFor : {E : Type 0} → Option (List ℕ) → ℕ → ℕ → Msg → Result (Unit {0}) (WithError E) → Type 0
SubmitsFor (Some signature) before now (msgs.Signed body) (Ok u) = body ≡ signature
SubmitsFor (Some signature) before now msgs.SignFailed (Err (Session e)) = e ≡ NoMemory
SubmitsFor None before now msgs.SignFailed (Err (Signer e)) = Rose before now
SubmitsFor answer before now msg result = ⊥

-- the signer is asked once, with the key, the hash and the bytes
pub record Signs {E : Type 0} (key : AgentIdentity) (hash : Option HashAlg) (bytes : List ℕ) (was is : SignerAt) (msg : Msg) (result : Result (Unit {0}) (WithError E)) : Type 0 where
  pub answer : Option (List ℕ)
  pub call : is.calls ≡ and_call was.calls (record { key = key; hash = hash; bytes = bytes; answer = answer })
  pub later : was.refusals ≤ is.refusals
  pub submits : SubmitsFor answer was.refusals is.refusals msg result

-- ---- a round of a login

-- the calls of the line and of the signer
pub record SigningAt : Type 0 where
  pub line : Calls
  pub signer : SignerAt

abbrev pub signing_at : Calls → Option (List SignerCall) → ℕ → SigningAt
signing_at line calls refusals = record { line = line; signer = signer_at calls refusals }

-- the signer's error comes before the line's
abbrev pub first_error : {E : Type 0} → Result (Unit {0}) (WithError E) → Result (Unit {0}) Error → Result (Unit {0}) (WithError E)
first_error (Err e) told = Err e
first_error (Ok u) (Err e) = Err (Session e)
first_error (Ok u) (Ok v) = Ok tt

-- bytes are signed, and what comes of it is submitted
pub record SignsAndTells {E : Type 0} (key : AgentIdentity) (hash : Option HashAlg) (bytes : List ℕ) (was is : SigningAt) (result : Result (Unit {0}) (WithError E)) : Type 0 where
  pub msg : Msg
  pub signed : Result (Unit {0}) (WithError E)
  pub signs : Signs key hash bytes was.signer is.signer msg signed
  pub told : Result (Unit {0}) Error
  pub tells : Told msg was.line is.line told
  pub is_result : result ≡ first_error signed told

-- bytes to sign are signed; another record is the answer, or is passed over
abbrev pub Deals : {E : Type 0} → AgentIdentity → Option HashAlg → Record → Option (List ℕ) → SigningAt → SigningAt → Result (Option AuthResult) (WithError E) → Type 0
Deals {E} key hash output (Some bytes) was is result =
    (signed : Result (Unit {0}) (WithError E)) × SignsAndTells key hash bytes was is signed × (result ≡ going_on signed)
Deals key hash output None was is result = (is ≡ was) × (result ≡ read_by (auth_answer output))

-- one record of the ticket is taken and dealt with
pub record SigningRound {E : Type 0} (key : AgentIdentity) (hash : Option HashAlg) (ticket : Ticket) (was is : SigningAt) (result : Result (Option AuthResult) (WithError E)) : Type 0 where
  pub output : Record
  pub of_ticket : is_of ticket.0 output ≡ true
  pub line : Calls
  pub takes : line ≡ gains was.line (taken ticket output ∷ [])
  pub deals : Deals key hash output (bytes_to_sign output) (record was { line = line }) is result

-- ---- the login

-- by what the submission returned: its error, or rounds with its ticket
abbrev pub SignsBy : {E : Type 0} → AgentIdentity → Option HashAlg → Result (Option Ticket) Error → SigningAt → SigningAt → Result AuthResult (WithError E) → Type 0
SignsBy key hash (Ok (Some ticket)) was is result = Until (SigningRound key hash ticket) was is result
SignsBy key hash (Ok None) was is result = ⊥
SignsBy key hash (Err e) was is result = (is ≡ was) × (result ≡ Err (Session e)) × IsDeclined e

pub record SignedIn {E : Type 0} (key : AgentIdentity) (hash : Option HashAlg) (call : Result (Option Ticket) Error → LineCall) (was is : SigningAt) (result : Result AuthResult (WithError E)) : Type 0 where
  pub given : Result (Option Ticket) Error
  pub line : Calls
  pub submits : line ≡ gains was.line (call given ∷ [])
  pub signs : SignsBy key hash given (record was { line = line }) is result

-- memory ran out before anything was submitted, or the login was
abbrev pub SignsIn : {E : Type 0} → AgentIdentity → Option HashAlg → (Result (Option Ticket) Error → LineCall) → SigningAt → SigningAt → Result AuthResult (WithError E) → Type 0
SignsIn key hash call was is result = ((is ≡ was) × (result ≡ Err (Session NoMemory))) ⊎ SignedIn key hash call was is result
