-- A login whose steps by GSSAPI the caller's own authenticator makes (RFC 4462, section 3): what it is asked and told,
-- and what is submitted for its steps.
use Rattle.std.specs.Prelude.{◌≡◌, ◌≤◌, ◌⊎◌, ℕ, true, List, [], ◌∷◌, ◌++◌, Option, Some, None, Result, Ok, Err}
use Rattle.std.specs.Option.{option_map}
use Rattle.sshc_wire.specs.Faults.{Rose}
use Rattle.sshc_wire.specs.declared.auth_record.AuthRecord.TheVariants as asks
use Rattle.sshc_wire.specs.declared.auth_record.GssapiRecord.{GssapiRecord}
use Rattle.sshc_wire.specs.declared.auth_record.GssapiRecord.TheVariants as reports
use Rattle.sshc_wire.specs.declared.record.Record.{Record}
use Rattle.sshc_wire.specs.declared.record.Record.TheVariants.{Auth}
use Rattle.sshc_wire.specs.declared.ticket.Ticket.{Ticket}
use Rattle.sshc_auth.specs.declared.auth_result.AuthResult.{AuthResult}
use Rattle.sshc_auth.specs.declared.error.Error.{Error}
use Rattle.sshc_auth.specs.declared.error.Error.TheVariants.{NoMemory}
use Rattle.sshc_auth.specs.declared.gssapi.GssapiError.{GssapiError}
use Rattle.sshc_auth.specs.declared.gssapi.GssapiError.TheVariants as errors
use Rattle.sshc_auth.specs.declared.gssapi.GssapiStep.{GssapiStep}
use Rattle.sshc_auth.specs.declared.gssapi.GssapiStep.TheVariants.{Complete, Continue}
use Rattle.sshc_client.specs.declared.message.Msg.{Msg}
use Rattle.sshc_client.specs.declared.message.Msg.TheVariants as msgs
use Rattle.sshc_handle_tickets.specs.Answers.{auth_answer}
use Rattle.sshc_handle_tickets.specs.Tickets.{is_of}
use Rattle.sshc_handle_calls.specs.declared.with_error.WithError.{WithError}
use Rattle.sshc_handle_calls.specs.declared.with_error.WithError.TheVariants.{Session, Signer}
use Rattle.sshc_handle_calls.specs.Asking.{Told}
use Rattle.sshc_handle_calls.specs.Lines.{Calls, IsDeclined, LineCall, gains, taken}
use Rattle.sshc_handle_calls.specs.Rounds.{Until, going_on, of_session, read_by}

-- ---- the calls of an authenticator

-- a step with its mechanism, token, the bytes of which a MIC is made, and the answer, `None` where it refused; or a
-- report of an error
pub data AuthenticatorCall : Type 0 where
  stepped : Option (List ℕ) → Option (List ℕ) → List ℕ → Option GssapiStep → AuthenticatorCall
  reported : GssapiError → AuthenticatorCall

-- the calls of an authenticator, if they are known, and how often it refused
pub record AuthenticatorAt : Type 0 where
  pub calls : Option (List AuthenticatorCall)
  pub refusals : ℕ

abbrev pub authenticator_at : Option (List AuthenticatorCall) → ℕ → AuthenticatorAt
authenticator_at calls refusals = record { calls = calls; refusals = refusals }

abbrev pub then_call : Option (List AuthenticatorCall) → AuthenticatorCall → Option (List AuthenticatorCall)
then_call calls call = option_map (λ before. before ++ call ∷ []) calls

abbrev pub step_in : {E : Type 0} → Result GssapiStep E → Option GssapiStep
step_in (Ok step) = Some step
step_in (Err e) = None

-- ---- one step

-- what the server said by GSSAPI, if a record says that
abbrev pub gssapi_said : Record → Option GssapiRecord
gssapi_said (Auth ticket (asks.Gssapi report)) = Some report
gssapi_said output = None

-- the last token, with a MIC if integrity is available
abbrev pub completed : Option (List ℕ) → Option (List ℕ) → Msg
completed token (Some mic) = msgs.AuthGssapiMic token mic
completed token None = msgs.AuthGssapiExchangeComplete token

abbrev pub step_msg : GssapiStep → Msg
step_msg (Continue token) = msgs.AuthGssapiToken token
step_msg (Complete token mic) = completed token mic

-- the step that was made, as its message; the authenticator's error comes only with a refusal
abbrev pub StepsFor : {E : Type 0} → Option GssapiStep → ℕ → ℕ → Result (Option Msg) E → Type 0
StepsFor (Some step) before now (Ok msg) = msg ≡ Some (step_msg step)
StepsFor None before now (Err e) = Rose before now
StepsFor answer before now result = ⊥

-- the authenticator makes one step
pub record Steps {E : Type 0} (mechanism token : Option (List ℕ)) (mic_data : List ℕ) (was is : AuthenticatorAt) (result : Result (Option Msg) E) : Type 0 where
  pub answer : Option GssapiStep
  pub call : is.calls ≡ then_call was.calls (stepped mechanism token mic_data answer)
  pub later : was.refusals ≤ is.refusals
  pub makes : StepsFor answer was.refusals is.refusals result

-- the authenticator is told of an error, and nothing is submitted for it
pub record Reports {E : Type 0} (error : GssapiError) (was is : AuthenticatorAt) (result : Result (Option Msg) E) : Type 0 where
  pub call : is.calls ≡ then_call was.calls (reported error)
  pub later : was.refusals ≤ is.refusals
  pub is_result : result ≡ Ok None

abbrev pub Authenticates : {E : Type 0} → GssapiRecord → AuthenticatorAt → AuthenticatorAt → Result (Option Msg) E → Type 0
Authenticates (reports.Response mechanism mic_data) was is result = Steps (Some mechanism) None mic_data was is result
Authenticates (reports.Token token mic_data) was is result = Steps None (Some token) mic_data was is result
Authenticates (reports.Error major_status minor_status message) was is result = Reports (errors.Status major_status minor_status message) was is result
Authenticates (reports.ErrorToken token) was is result = Reports (errors.ErrorToken token) was is result

-- ---- a round of a login

-- the calls of the line and of the authenticator
pub record SteppingAt : Type 0 where
  pub line : Calls
  pub authenticator : AuthenticatorAt

abbrev pub stepping_at : Calls → Option (List AuthenticatorCall) → ℕ → SteppingAt
stepping_at line calls refusals = record { line = line; authenticator = authenticator_at calls refusals }

-- the message of a step is submitted, if there is one
abbrev pub TellsStep : {E : Type 0} → Result (Option Msg) E → Calls → Calls → Result (Unit {0}) (WithError E) → Type 0
TellsStep (Ok (Some msg)) old new result = (told : Result (Unit {0}) Error) × Told msg old new told × (result ≡ of_session told)
TellsStep (Ok None) old new result = (new ≡ old) × (result ≡ Ok tt)
TellsStep (Err e) old new result = (new ≡ old) × (result ≡ Err (Signer e))

pub record StepsAndTells {E : Type 0} (report : GssapiRecord) (was is : SteppingAt) (result : Result (Unit {0}) (WithError E)) : Type 0 where
  pub made : Result (Option Msg) E
  pub steps : Authenticates report was.authenticator is.authenticator made
  pub tells : TellsStep made was.line is.line result

-- what the server said goes to the authenticator; another record is the answer, or is passed over
abbrev pub DealsBySteps : {E : Type 0} → Record → Option GssapiRecord → SteppingAt → SteppingAt → Result (Option AuthResult) (WithError E) → Type 0
DealsBySteps {E} output (Some report) was is result =
    (told : Result (Unit {0}) (WithError E)) × StepsAndTells report was is told × (result ≡ going_on told)
DealsBySteps output None was is result = (is ≡ was) × (result ≡ read_by (auth_answer output))

-- one record of the ticket is taken and dealt with
pub record SteppingRound {E : Type 0} (ticket : Ticket) (was is : SteppingAt) (result : Result (Option AuthResult) (WithError E)) : Type 0 where
  pub output : Record
  pub of_ticket : is_of ticket.0 output ≡ true
  pub line : Calls
  pub takes : line ≡ gains was.line (taken ticket output ∷ [])
  pub deals : DealsBySteps output (gssapi_said output) (record was { line = line }) is result

-- ---- the login

-- by what the submission returned: its error, or rounds with its ticket
abbrev pub StepsBy : {E : Type 0} → Result (Option Ticket) Error → SteppingAt → SteppingAt → Result AuthResult (WithError E) → Type 0
StepsBy (Ok (Some ticket)) was is result = Until (SteppingRound ticket) was is result
StepsBy (Ok None) was is result = ⊥
StepsBy (Err e) was is result = (is ≡ was) × (result ≡ Err (Session e)) × IsDeclined e

pub record SteppedIn {E : Type 0} (call : Result (Option Ticket) Error → LineCall) (was is : SteppingAt) (result : Result AuthResult (WithError E)) : Type 0 where
  pub given : Result (Option Ticket) Error
  pub line : Calls
  pub submits : line ≡ gains was.line (call given ∷ [])
  pub steps : StepsBy given (record was { line = line }) is result

-- memory ran out before anything was submitted, or the login was
abbrev pub StepsIn : {E : Type 0} → (Result (Option Ticket) Error → LineCall) → SteppingAt → SteppingAt → Result AuthResult (WithError E) → Type 0
StepsIn call was is result = ((is ≡ was) × (result ≡ Err (Session NoMemory))) ⊎ SteppedIn call was is result
