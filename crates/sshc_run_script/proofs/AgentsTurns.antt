-- An agent's turn has only records of an agent, asks the signer only as the agent, and stops the run only if its fields
-- can't be read.
use Rattle.std.proofs.Common.{◌≡◌, ℕ, Bool, false, List, [], ◌∷◌, ◌++◌, Result, Ok, Err, refl, ap}
use Rattle.sshc_key.specs.declared.signer.Asker.{Asker}
use Rattle.sshc_key.specs.Asking.{then_asks}
use Rattle.sshc_key.specs.AskingLaws.{always_any}
use Rattle.sshc_agent_core.specs.declared.input.AgentInput.{AgentInput}
use Rattle.sshc_agent_core.specs.declared.input.AgentOutput.{AgentOutput}
use Rattle.sshc_agent_core.specs.declared.input.AgentOutput.TheVariants as outputs
use Rattle.sshc_agent_core.specs.declared.input.Cause.TheVariants as causes
use Rattle.sshc_agent_core.specs.AgentList.{AgentList}
use Rattle.sshc_agent_core.specs.AgentTable.{agent_row}
use Rattle.sshc_agent_core.specs.AskerLaws.{AsksAs, row_asks}
use Rattle.sshc_run_agent.specs.declared.event.AgentEvent.{AgentEvent}
use Rattle.sshc_run_agent.specs.AgentEvents.{agent_event_of}
use Rattle.sshc_run_agent.specs.AgentTurns.{AgentTurn, AfterInput, Served, agent_turn, behind, conn_of, each_turn, event_bytes, event_inputs, input_turn, kept_with, records_of, said_on}
use Rattle.sshc_client_table.specs.SessionRecords.{is_session_record}
use Rattle.sshc_run_script.specs.ReachedStates.{StopsFor}
use Rattle.sshc_run_script.specs.declared.error.RunError.TheVariants as errors
use Rattle.sshc_run_script.proofs.RunNames.{Record, Asking, done, asks, asked_on, Always, always_on, EventError, Frame, agent_read_turn, agents_turn, going_on, served_turn, IsNoEnd, NeverAtEnd, TurnOf, AsksBy, SaysBy, IsAgentCause, is_session_asker, stops}
use Rattle.sshc_run_script.proofs.Products.{asks_on}

-- ---- two in a row

always_then : {A : Type 0} {B : Type 0} (P : A → Type 0) (Q : B → Type 0) (asking : Asking A) (f : A → Asking B) → Always P asking → ((x : A) → P x → Always Q (f x)) → Always Q (then_asks asking f)
always_then P Q (done x) f holds each = each x holds
always_then P Q (asks asked on) f holds each = λ answer. always_then P Q (on answer) f (holds answer) each

asks_then : {A : Type 0} {B : Type 0} (test : Asker → Bool) (is : Bool) (asking : Asking A) (f : A → Asking B) → AsksBy test is asking → ((x : A) → AsksBy test is (f x)) → AsksBy test is (then_asks asking f)
asks_then test is (done x) f by each = each x
asks_then test is (asks asked on) f (here, by) each = (here, λ answer. asks_then test is (on answer) f (by answer) each)

-- ---- records

pub says_two : (test : Record → Bool) (is : Bool) (a b : List Record) → SaysBy test is a → SaysBy test is b → SaysBy test is (a ++ b)
says_two test is [] b one other = other
says_two test is (output ∷ a) b one other = (one.0, says_two test is a b one.1 other)

-- an answer is reported as an agent's record
output_says : (conn : ℕ) (output : AgentOutput) → SaysBy is_session_record false (records_of conn output)
output_says conn outputs.Nothing = tt
output_says conn (outputs.Closed causes.NoMemory) = tt
output_says conn output = (refl, tt)

abbrev SaysAgents : AfterInput → Type 0
SaysAgents t = SaysBy is_session_record false t.records

module _ (now conn : ℕ) where
  each_says : (inputs : List AgentInput) (l : AgentList) → Always SaysAgents (each_turn now conn inputs l)
  unfolding each_turn
  each_says [] l = tt
  each_says (input ∷ inputs) l =
      always_then SaysAgents SaysAgents (input_turn now conn input l) (λ t. asked_on (behind t.records) (each_turn now conn inputs t.list))
      (always_any SaysAgents (said_on conn) (agent_row now conn input l) (λ o. output_says conn o.output))
      (λ t says. always_on SaysAgents SaysAgents (behind t.records) (each_turn now conn inputs t.list) (λ later more. says_two is_session_record false t.records later.records says more) (each_says inputs t.list))

  -- ---- who asks

  as_agent : {A : Type 0} (asking : Asking A) → AsksAs conn asking → AsksBy is_session_asker false asking
  as_agent (done x) so = tt
  as_agent (asks asked on) (here, so) = (ap is_session_asker here, λ answer. as_agent (on answer) (so answer))

  each_asks : (inputs : List AgentInput) (l : AgentList) → AsksBy is_session_asker false (each_turn now conn inputs l)
  unfolding each_turn
  each_asks [] l = tt
  each_asks (input ∷ inputs) l =
      asks_then is_session_asker false (input_turn now conn input l) (λ t. asked_on (behind t.records) (each_turn now conn inputs t.list))
      (asks_on is_session_asker false (said_on conn) (agent_row now conn input l) (as_agent (agent_row now conn input l) (row_asks now conn input l)))
      (λ t. asks_on is_session_asker false (behind t.records) (each_turn now conn inputs t.list) (each_asks inputs t.list))

-- ---- an event

-- what holds of an event that is read, and of fields that can't be, holds of the turn
pub agents_case : (s : Served) (frame : Frame) (P : Result AgentEvent EventError → Asking (TurnOf Served) → Type 0) → ((event : AgentEvent) → P (Ok event) (served_turn frame.moment event s)) →
    ((e : EventError) → P (Err e) (done (stops s (errors.BadEvent frame.place)))) → P (agent_event_of frame.kind frame.fields) (agents_turn s frame)
unfolding agents_turn
agents_case s frame P event_turns bad = by (agent_event_of frame.kind frame.fields)
  where
    by : (read : Result AgentEvent EventError) → P read (agent_read_turn frame.place frame.moment s read)
    by (Ok event) = event_turns event
    by (Err e) = bad e

event_says : (moment : ℕ) (event : AgentEvent) (s : Served) → Always (λ (t : TurnOf Served). SaysBy is_session_record false t.records) (served_turn moment event s)
unfolding agent_turn
event_says moment event s =
    always_on (λ (t : AgentTurn). SaysBy is_session_record false t.records) (λ (t : TurnOf Served). SaysBy is_session_record false t.records) going_on (agent_turn moment event s) (λ t says. says)
    (always_on SaysAgents (λ (t : AgentTurn). SaysBy is_session_record false t.records) (kept_with (event_bytes event s.bytes)) (each_turn moment (conn_of event) (event_inputs event s.bytes) s.list) (λ t says. says)
    (each_says moment (conn_of event) (event_inputs event s.bytes) s.list))

event_asks : (moment : ℕ) (event : AgentEvent) (s : Served) → AsksBy is_session_asker false (served_turn moment event s)
unfolding agent_turn
event_asks moment event s =
    asks_on is_session_asker false going_on (agent_turn moment event s)
    (asks_on is_session_asker false (kept_with (event_bytes event s.bytes)) (each_turn moment (conn_of event) (event_inputs event s.bytes) s.list)
    (each_asks moment (conn_of event) (event_inputs event s.bytes) s.list))

-- ---- every turn of an agent

pub agents_say : (s : Served) (frame : Frame) → Always (λ (t : TurnOf Served). SaysBy is_session_record false t.records) (agents_turn s frame)
agents_say s frame = agents_case s frame (λ read. Always (λ (t : TurnOf Served). SaysBy is_session_record false t.records)) (λ event. event_says frame.moment event s) (λ e. tt)

pub agents_ask : (s : Served) (frame : Frame) → AsksBy is_session_asker false (agents_turn s frame)
agents_ask s frame = agents_case s frame (λ read asking. AsksBy is_session_asker false asking) (λ event. event_asks frame.moment event s) (λ e. tt)

pub agents_stop : (s : Served) (frame : Frame) → Always (λ (t : TurnOf Served). StopsFor (IsAgentCause frame) t.next) (agents_turn s frame)
agents_stop s frame =
    agents_case s frame (λ read asking. agent_event_of frame.kind frame.fields ≡ read → Always (λ (t : TurnOf Served). StopsFor (IsAgentCause frame) t.next) asking)
    (λ event is. always_any (λ (t : TurnOf Served). StopsFor (IsAgentCause frame) t.next) going_on (agent_turn frame.moment event s) (λ t. tt)) (λ e is. (e, is, refl)) refl

pub agents_never : NeverAtEnd agents_turn
agents_never = λ s frame. agents_case s frame (λ read. Always IsNoEnd) (λ event. always_any IsNoEnd going_on (agent_turn frame.moment event s) (λ t. λ is. cc)) (λ e is. cc)
