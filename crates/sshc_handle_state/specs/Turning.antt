-- What a turn of the runner does: it takes what its rules yield, passes an event to one step of the session, deals with
-- the step's records, and closes the handle if the session has ended. Stated by relations between two moments; the code
-- does one part after the other.
use Rattle.std.specs.Prelude.{◌≡◌, ◌⊎◌, ℕ, Bool, true, false, List, [], Option, Some, None, is_none, Result, Ok, Err}
use Rattle.sshc_wire.specs.declared.error.NoMemory.{NoMemory as RanOut}
use Rattle.sshc_key.specs.Signers.{SignCall}
use Rattle.sshc_key.specs.declared.agent.AgentSessionBinding.{AgentSessionBinding}
use Rattle.sshc_transport.specs.Transports.{Answer, Handing}
use Rattle.sshc_transport.specs.declared.exchange.ExchangeKey.{ExchangeKey}
use Rattle.sshc_transport.specs.declared.exchange.ExchangeKey.TheVariants as keys
use Rattle.sshc_transport.specs.declared.exchange.ExchangeResult.{ExchangeResult}
use Rattle.sshc_auth_event.specs.declared.event.Event.{Event}
use Rattle.sshc_auth_event.specs.declared.event.Event.TheVariants.{ExchangeDone}
use Rattle.sshc_auth.specs.declared.ended.Ended.{Ended}
use Rattle.sshc_auth.specs.declared.ended.Ended.TheVariants.{Closed, Disconnected, RemoteDisconnect}
use Rattle.sshc_auth.specs.declared.error.Error.{Error}
use Rattle.sshc_auth.specs.declared.error.Error.TheVariants.{NoMemory}
use Rattle.sshc_auth.specs.declared.step.Step.{Step}
use Rattle.sshc_auth.specs.declared.step.Step.TheVariants as steps
use Rattle.sshc_auth.specs.Stepping.{GateAnswers}
use Rattle.sshc_client_packets.specs.HostKeyProof.{Accepts}
use Rattle.sshc_client_table.specs.SessionRow.{Callback}
use Rattle.sshc_client_table.specs.SessionState.{SessionState}
use Rattle.sshc_client_state.specs.OpeningStep.{Lent, goes_on, lent_session}
use Rattle.sshc_client.specs.Handling.{HandlerAt}
use Rattle.sshc_client.specs.HandledStep.{SessionSteps}
use Rattle.sshc_client.specs.Stepping.{SessionStepped}
use Rattle.sshc_handle_state.specs.declared.end.End.{End}
use Rattle.sshc_handle_state.specs.declared.end.End.TheVariants as ends
use Rattle.sshc_handle_state.specs.declared.end.Turn.{Turn}
use Rattle.sshc_handle_state.specs.declared.end.Turn.TheVariants as turns
use Rattle.sshc_handle_state.specs.declared.picking.Pick.{Pick}
use Rattle.sshc_handle_state.specs.declared.picking.Pick.TheVariants as picks
use Rattle.sshc_handle_state.specs.HandleAt.{HandleAt, ended_with}
use Rattle.sshc_handle_state.specs.Picking.{LinkAt, Picks}
use Rattle.sshc_handle_state.specs.Dealing.{DealsBy}

-- ---- the signer and the handler in a turn

-- the signer's calls and refusals, and the handler's refusals with what it judges by, and the calls of it that it keeps
pub record CallersAt : Type 0 where
  pub calls : List SignCall
  pub signer_refusals : ℕ
  pub refusals : ℕ
  pub setting : List (List ℕ)
  pub heard : List Callback

abbrev pub callers_at : List SignCall → ℕ → HandlerAt → CallersAt
callers_at calls signer_refusals handler = record {
  calls = calls;
  signer_refusals = signer_refusals;
  refusals = handler.refusals;
  setting = handler.setting;
  heard = handler.heard;
}

abbrev pub lent_to : SessionState → CallersAt → Lent
lent_to session c = lent_session session c.calls c.signer_refusals c.refusals c.setting c.heard

-- ---- the binding of the first exchange

abbrev pub key_blob : ExchangeKey → Option (List ℕ)
key_blob keys.Missing = None
key_blob (keys.Key blob) = Some blob
key_blob (keys.Certificate blob) = Some blob

abbrev pub bound_by : Option (List ℕ) → ExchangeResult → Option AgentSessionBinding
bound_by None x = None
bound_by (Some blob) x = Some (record { host_key = blob; session_id = x.session_hash; signature = x.signature })

abbrev pub binding_of : ExchangeResult → Option AgentSessionBinding
binding_of x = bound_by (key_blob x.key) x

-- it is kept if the session continues after an exchange, and none was kept before
abbrev pub binding_behind : Event → Bool → Option AgentSessionBinding → Option AgentSessionBinding
binding_behind event goes (Some binding) = Some binding
binding_behind (ExchangeDone x) true None = binding_of x
binding_behind event goes None = None

-- memory may run out, and then nothing changes
abbrev pub Binds : Event → Bool → HandleAt → HandleAt → Result (Unit {0}) RanOut → Type 0
Binds event goes old new (Ok u) = new ≡ record old { binding = binding_behind event goes old.binding }
Binds event goes old new (Err e) = new ≡ old

-- ---- how a turn ends

-- the end of the handle: a turn that ends or refuses the session resolves the tickets of all who wait
abbrev pub closed_by : {E : Type 0} → Turn E → HandleAt → HandleAt
closed_by (turns.Ended e) s = ended_with (ends.Ended e) s
closed_by (turns.Refused e) s = ended_with ends.Refused s
closed_by turn s = s

-- by the step's result; out of memory refuses a session that would continue. A step returns `Closed` only if an earlier
-- one has ended the session, and then that one's turn has ended the handle
abbrev pub turn_by : {E : Type 0} → (Error → E) → Step E → Result (Unit {0}) RanOut → Turn E
turn_by told_as (steps.Ended e) result = turns.Ended e
turn_by told_as (steps.Refused e) result = turns.Refused e
turn_by told_as steps.Closed result = turns.Ended Closed
turn_by told_as steps.Went (Ok u) = turns.Took
turn_by told_as steps.Opened (Ok u) = turns.Took
turn_by told_as steps.Went (Err e) = turns.Refused (told_as NoMemory)
turn_by told_as steps.Opened (Err e) = turns.Refused (told_as NoMemory)

-- the end that is kept is a copy: if memory runs out for the server's text in it, the session counts as refused
abbrev pub OrRanOut : {E : Type 0} → (Error → E) → Turn E → Turn E → Type 0
OrRanOut told_as (turns.Ended (RemoteDisconnect info)) turn = (turn ≡ turns.Ended (RemoteDisconnect info)) ⊎ (turn ≡ turns.Refused (told_as NoMemory))
OrRanOut told_as due turn = turn ≡ due

pub record Closes {E : Type 0} (told_as : Error → E) (due : Turn E) (last new : HandleAt) (turn : Turn E) : Type 0 where
  pub turn_is : OrRanOut told_as due turn
  pub closed : new ≡ closed_by turn last

-- ---- a turn that takes an event

-- the records of the step are taken and dealt with
pub record DealsWith (old new : HandleAt) (was is : LinkAt) (result : Result (Unit {0}) RanOut) : Type 0 where
  pub deals : DealsBy old.session.records old.failed new.failed old.tickets new.tickets was is result
  pub rest : new ≡ record old { session = record (old.session) { records = [] }; tickets = new.tickets; failed = new.failed }

-- memory ran out in one of two parts
abbrev pub both : Result (Unit {0}) RanOut → Result (Unit {0}) RanOut → Result (Unit {0}) RanOut
both (Ok u) second = second
both (Err e) second = Err e

-- the step of the session, with whatever the handler does, or exactly by its defaults
pub record StepsSession {E : Type 0} (defaults : Type 0) (gate : GateAnswers E) (accepts : Accepts) (event : Event) (was is : Lent) (step : Step E) : Type 0 where
  pub steps : SessionSteps defaults gate accepts event was is step
  pub by_default : defaults → SessionStepped gate accepts event was is step

pub record TakesEvent {E : Type 0} (defaults : Type 0) (gate : GateAnswers E) (accepts : Accepts) (event : Event) (old new : HandleAt) (was is : CallersAt) (link_was link_is : LinkAt) (turn : Turn E) : Type 0 where
  pub last : SessionState
  pub step : Step E
  pub steps : StepsSession defaults gate accepts event (lent_to old.session was) (lent_to last is) step
  pub bound : HandleAt
  pub binding : Result (Unit {0}) RanOut
  pub binds : Binds event (goes_on step) (record old { session = last }) bound binding
  pub dealt : HandleAt
  pub dealing : Result (Unit {0}) RanOut
  pub deals : DealsWith bound dealt link_was link_is dealing
  pub closes : Closes gate.told_as (turn_by gate.told_as step (both binding dealing)) dealt new turn

-- ---- the turn

-- the signer and the handler don't change
pub record Closing {E : Type 0} (told_as : Error → E) (due : Turn E) (last new : HandleAt) (was is : CallersAt) (link_was link_is : LinkAt) (turn : Turn E) : Type 0 where
  pub closes : Closes told_as due last new turn
  pub callers : is ≡ was
  pub link : link_is ≡ link_was

-- by the result of the rules
abbrev pub Takes : {E : Type 0} → Type 0 → GateAnswers E → Accepts → Pick → HandleAt → HandleAt → CallersAt → CallersAt → LinkAt → LinkAt → Turn E → Type 0
Takes defaults gate accepts (picks.Event event) old new was is link_was link_is turn =
    TakesEvent defaults gate accepts event old new was is link_was link_is turn
Takes defaults gate accepts picks.Idle old new was is link_was link_is turn =
    Closing gate.told_as turns.Idle old new was is link_was link_is turn
Takes defaults gate accepts picks.Ended old new was is link_was link_is turn =
    Closing gate.told_as (turns.Ended Disconnected) old new was is link_was link_is turn
Takes defaults gate accepts picks.NoMemory old new was is link_was link_is turn =
    Closing gate.told_as (turns.Refused (gate.told_as NoMemory)) old new was is link_was link_is turn

pub record Turns {E : Type 0} (defaults : Type 0) (gate : GateAnswers E) (accepts : Accepts) (now : ℕ) (old new : HandleAt) (was is : CallersAt) (link_was link_is : LinkAt) (turn : Turn E) : Type 0 where
  pub mid : HandleAt
  pub link : LinkAt
  pub pick : Pick
  pub picks : Picks now old mid link_was link pick
  pub takes : Takes defaults gate accepts pick mid new was is link link_is turn
