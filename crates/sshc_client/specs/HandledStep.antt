-- What a step of a session does, with any handler. In an open session the event's row is followed, with whatever the
-- handler does to the session that it is lent; before that the opening's step continues after what the handler did.
-- Stated by relations between states; the code does one move after the other.
use Rattle.std.specs.Prelude.{◌≡◌, ◌≤◌, ◌⊎◌, ℕ, Bool, true, false, ◌&&◌, not, List, [], ◌∷◌, Option, Some, None, Result, Ok, Err}
use Rattle.sshc_wire.specs.Faults.{Rose}
use Rattle.sshc_wire.specs.declared.record.Record.{Record}
use Rattle.sshc_key.specs.Signers.{SignCall}
use Rattle.sshc_key.specs.declared.identity.PublicKeyOrCertificate.{PublicKeyOrCertificate}
use Rattle.sshc_transport.specs.declared.exchange.ExchangeResult.{ExchangeResult}
use Rattle.sshc_auth_event.specs.declared.event.Event.{Event}
use Rattle.sshc_auth.specs.declared.ended.Ended.TheVariants.{Disconnected}
use Rattle.sshc_auth.specs.declared.error.Error.{Error}
use Rattle.sshc_auth.specs.declared.error.Error.TheVariants.{NoMemory}
use Rattle.sshc_auth.specs.declared.step.Asks.{Asks}
use Rattle.sshc_auth.specs.declared.step.Asks.TheVariants as asking
use Rattle.sshc_auth.specs.declared.step.Step.{Step}
use Rattle.sshc_auth.specs.declared.step.Step.TheVariants as steps
use Rattle.sshc_auth.specs.OpeningState.{shut}
use Rattle.sshc_auth.specs.OpeningTable.{asked_of}
use Rattle.sshc_auth.specs.Stepping.{GateAnswers, exchange_in, gate_answers}
use Rattle.sshc_client_packets.specs.HostKeyProof.{Accepts}
use Rattle.sshc_client_table.specs.declared.life.Life.{Life}
use Rattle.sshc_client_table.specs.declared.life.Life.TheVariants.{Left, Over}
use Rattle.sshc_client_table.specs.SessionState.{SessionState, is_live, opens_later, runs}
use Rattle.sshc_client_table.specs.Moves.{Stops, after}
use Rattle.sshc_client_table.specs.SessionRow.{Banner, Callback, HostKey, KexDone}
use Rattle.sshc_client_table.specs.SessionTable.{session_row}
use Rattle.sshc_client_table.specs.Grown.{Grown}
use Rattle.sshc_client_table.specs.StepLaws.{OpenStepLaws}
use Rattle.sshc_client_state.specs.OpeningStep.{Lent, StepsLent, goes_on, lent_session}
use Rattle.sshc_client_rows.specs.declared.flow.RowFlow.{RowFlow}
use Rattle.sshc_client_rows.specs.declared.flow.RowFlow.TheVariants as flows
use Rattle.sshc_client.specs.declared.stop.Stop.{Stop}
use Rattle.sshc_client.specs.declared.stop.Stop.TheVariants.{Own, Handler}
use Rattle.sshc_client.specs.Handling.{HandlerAt, HandlerHeard, HandlerKept, handler_at}
use Rattle.sshc_client.specs.CausedStep.{IsCausedOpen}
use Rattle.sshc_client.specs.HandledRow.{FollowsWith}

-- a session, its signer and its handler at one moment
abbrev pub lent_by : SessionState → List SignCall → ℕ → HandlerAt → Lent
lent_by session calls refusals handler = lent_session session calls refusals handler.refusals handler.setting handler.heard

-- the handler, as it is at one moment
abbrev pub handler_of : Lent → HandlerAt
handler_of l = handler_at l.gate_refusals l.setting l.heard

-- ---- how a step ends

-- if the user left the session during the handler's call, a step that would continue ends it
abbrev pub EndsBy : {E : Type 0} → Bool → SessionState → SessionState → Step E → Step E → Type 0
EndsBy false last new step result = (result ≡ step) × (new ≡ last)
EndsBy true last new step result = (result ≡ steps.Ended Disconnected) × (new ≡ after Stops last)

abbrev pub has_left : Life → Bool
has_left Left = true
has_left life = false

-- ---- in an open session

-- by how the row ended; if the row doesn't continue, the session is over
abbrev pub EndsRow : {E : Type 0} → (Error → E) → SessionState → SessionState → Result RowFlow (Stop E) → Step E → Type 0
EndsRow told_as last new (Ok flows.Went) result = EndsBy (has_left last.life) last new steps.Went result
EndsRow told_as last new (Ok (flows.Ended e)) result = (result ≡ steps.Ended e) × (new ≡ after Stops last)
EndsRow told_as last new (Err (Own e)) result = (result ≡ steps.Refused (told_as e)) × (new ≡ after Stops last)
EndsRow told_as last new (Err (Handler e)) result = (result ≡ steps.Refused e) × (new ≡ after Stops last)

pub record StepsOpen {E : Type 0} (defaults : Type 0) (told_as : Error → E) (accepts : Accepts) (event : Event) (was is : HandlerAt) (old new : SessionState) (result : Step E) : Type 0 where
  pub last : SessionState
  pub answer : Result RowFlow (Stop E)
  pub follows : FollowsWith defaults was is (λ o. session_row accepts o old event) old last answer
  pub ends : EndsRow told_as last new answer result

-- an open session goes on
abbrev pub goes_on_open : {E : Type 0} → Step E → Bool
goes_on_open steps.Went = true
goes_on_open result = false

-- ---- before the session is open

-- What the handler does to the session is already in the session, so the opening gets no more records.
abbrev pub AddsNothing : {E : Type 0} → Result (Unit {0}) E → List Record → Type 0
AddsNothing answer more = (answer ≡ Ok tt) × (more ≡ [])

-- a handler as a gate of the opening: its verdict on the host key
abbrev pub handler_gate : {E : Type 0} → (Error → E) → (PublicKeyOrCertificate → Result Bool E → Type 0) → GateAnswers E
handler_gate told_as judges = gate_answers told_as judges (λ secret names. AddsNothing) (λ banner. AddsNothing)

-- the handler is called
abbrev pub IsCall : Asks → Type 0
IsCall asking.Nothing = ⊥
IsCall asks = Unit {0}

-- the session is grown by the handler, if the row calls it, and the opening's step continued from there
pub record StepsBehind {E : Type 0} (defaults : Type 0) (gate : GateAnswers E) (event : Event) (was is : Lent) (result : Step E) : Type 0 where
  pub mid : SessionState
  pub grown : Grown (was.session) mid
  pub same : defaults → mid ≡ was.session
  pub unlent : (IsCall (asked_of was.session.opening event) → ⊥) → mid ≡ was.session
  pub last : SessionState
  pub step : Step E
  pub stepped : StepsLent gate event (record was { session = mid }) (record is { session = last }) step
  pub ends : EndsBy (goes_on step && has_left last.life) last (is.session) step result

-- the session after a refusal before it is open
abbrev pub shut_session : SessionState → SessionState
shut_session s = record s { opening = shut s.opening; life = Over }

-- why: memory ran out; the handler refused the host key that it was asked about; or it refused otherwise, from a call
-- that the row asks, by a body of its own
abbrev pub WhyRefused : {E : Type 0} → Type 0 → GateAnswers E → Event → Lent → Lent → SessionState → E → Type 0
WhyRefused defaults gate event was is mid e =
    ((e ≡ gate.told_as NoMemory) × (mid ≡ was.session))
    ⊎ (((key : PublicKeyOrCertificate) × (asked_of was.session.opening event ≡ asking.HostKey key) × gate.judges key (Err e) × (mid ≡ was.session) × Rose was.gate_refusals is.gate_refusals)
    ⊎ (Rose was.gate_refusals is.gate_refusals × IsCall (asked_of was.session.opening event) × (defaults → ⊥)))

pub record RefusedBefore {E : Type 0} (defaults : Type 0) (gate : GateAnswers E) (event : Event) (was is : Lent) (result : Step E) : Type 0 where
  pub fresh : was.session.opening.closed ≡ false
  pub mid : SessionState
  pub grown : Grown (was.session) mid
  pub error : E
  pub refused : result ≡ steps.Refused error
  pub shut : is.session ≡ shut_session mid
  pub why : WhyRefused defaults gate event was is mid error
  pub calls : is.calls ≡ was.calls
  pub refusals : is.signer_refusals ≡ was.signer_refusals

-- what the handler hears of the opening: of the host key and, if it accepts the key, of the exchange; of an exchange; or
-- of a banner
abbrev pub exchange_call : Option ExchangeResult → List Callback
exchange_call None = []
exchange_call (Some x) = KexDone x.secret x.names ∷ []

abbrev pub HearsKey : {E : Type 0} → (PublicKeyOrCertificate → Result Bool E → Type 0) → PublicKeyOrCertificate → Option ExchangeResult → HandlerAt → HandlerAt → Type 0
HearsKey judges key exchange was is =
    HandlerHeard (HostKey key ∷ []) was is
    ⊎ (judges key (Ok true) × HandlerHeard (HostKey key ∷ exchange_call exchange) was is)

abbrev pub HearsAsked : {E : Type 0} → (PublicKeyOrCertificate → Result Bool E → Type 0) → Asks → Option ExchangeResult → HandlerAt → HandlerAt → Type 0
HearsAsked judges asking.Nothing exchange was is = HandlerHeard [] was is
HearsAsked judges (asking.HostKey key) exchange was is = HearsKey judges key exchange was is
HearsAsked judges asking.Exchange exchange was is = HandlerHeard (exchange_call exchange) was is
HearsAsked judges (asking.Banner text) exchange was is = HandlerHeard (Banner text ∷ []) was is

abbrev pub HearsBefore : {E : Type 0} → GateAnswers E → Event → Lent → Lent → Type 0
HearsBefore gate event was is =
    HearsAsked gate.judges (asked_of was.session.opening event) (exchange_in event) (handler_of was) (handler_of is)

-- a step before the session is open, and what the handler keeps and heard
pub record Before {E : Type 0} (defaults : Type 0) (gate : GateAnswers E) (event : Event) (was is : Lent) (result : Step E) : Type 0 where
  pub steps_on : StepsBehind defaults gate event was is result ⊎ RefusedBefore defaults gate event was is result
  pub keeps : HearsBefore gate event was is

-- ---- the step

pub record SessionSteps {E : Type 0} (defaults : Type 0) (gate : GateAnswers E) (accepts : Accepts) (event : Event) (was is : Lent) (result : Step E) : Type 0 where
  -- a session that is over returns `Closed`, and doesn't change
  pub closed : was.session.life ≡ Over → (result ≡ steps.Closed) × (is.session ≡ was.session)
  -- a session that the user left is over with the next step
  pub left : was.session.life ≡ Left → (result ≡ steps.Ended Disconnected) × (is.session ≡ after Stops (was.session))
  -- a session that is over or was left calls neither signer nor handler: nothing else that is lent changes
  pub silent : runs (was.session.life) ≡ false → is ≡ record was { session = is.session }
  -- before the session is open
  pub opening : opens_later (was.session) ≡ true →
      StepsBehind defaults gate event was is result ⊎ RefusedBefore defaults gate event was is result
  -- the row of the table; neither signer nor gate is asked
  pub row : is_live (was.session) ≡ true →
      StepsOpen defaults gate.told_as accepts event (handler_of was) (handler_of is) (was.session) (is.session) result
      × (is.calls ≡ was.calls)
  -- in an open session, why it refuses or ends: by its state and the event alone, or by the handler
  pub caused : is_live (was.session) ≡ true →
      IsCausedOpen defaults gate.told_as (handler_of was) (handler_of is) (was.session) event result
  -- in an open session, the laws of a step: of replies, opens, key exchanges and authentication
  pub laws : is_live (was.session) ≡ true → OpenStepLaws accepts event was.session is.session (goes_on_open result)
  -- before the session is open the handler hears what the opening asks, and nothing else: of a host key in the first
  -- exchange alone, and then once, and of that exchange only if it may accept the key; in an open session what it hears
  -- is in `row`
  pub heard : opens_later (was.session) ≡ true → HearsBefore gate event was is
  -- the handler's count of refusals never falls, and what it judges by doesn't change
  pub keeps : HandlerKept (handler_of was) (handler_of is)
  -- the signer's count of refusals never falls
  pub signer : was.signer_refusals ≤ is.signer_refusals
