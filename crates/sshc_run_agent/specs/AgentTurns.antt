-- The turn of an event of an agent's connection: its records, and the agent and the bytes of its connections
-- afterwards.
-- The inputs of an event are a list, and each is its row of the agent table, in order; the code takes one at a time.
use Rattle.std.specs.Prelude.{◌≡◌, ℕ, zero, suc, ◌+◌, Bool, List, [], ◌∷◌, ◌++◌, length, Option, Some, None, unwrap_or, if◌then◌else◌}
use Rattle.std.specs.Ordering.{nat_cmp}
use Rattle.std.specs.BTreeMap.{insert_entry, is_at}
use Rattle.std.specs.Map.{lookup, remove_entry}
use Rattle.sshc_wire.specs.declared.record.Record.{Record}
use Rattle.sshc_wire.specs.declared.record.Record.TheVariants.{Agent}
use Rattle.sshc_wire.specs.declared.agent_record.AgentFault.TheVariants as faults
use Rattle.sshc_wire.specs.declared.agent_record.AgentRecord.TheVariants as agent
use Rattle.sshc_key.specs.Signers.{SignCall}
use Rattle.sshc_key.specs.Asking.{Asking, Makes, done, asked_on, then_asks}
use Rattle.sshc_agent_core.specs.declared.input.AgentInput.{AgentInput}
use Rattle.sshc_agent_core.specs.declared.input.AgentOutput.{AgentOutput}
use Rattle.sshc_agent_core.specs.declared.input.AgentOutput.TheVariants as outputs
use Rattle.sshc_agent_core.specs.declared.input.Cause.TheVariants as causes
use Rattle.sshc_agent_core.specs.AgentFrames.{FrameBytes, next_in, no_bytes, pushed}
use Rattle.sshc_agent_core.specs.AgentList.{AgentList, empty_list}
use Rattle.sshc_agent_core.specs.AgentTable.{agent_row}
use Rattle.sshc_agent_core.specs.Turn.{Outcome}
use Rattle.sshc_run_agent.specs.declared.event.AgentEvent.{AgentEvent}
use Rattle.sshc_run_agent.specs.declared.event.AgentEvent.TheVariants as events

-- ---- what is kept

-- the agent's state, and for each connection the bytes that belong to no whole frame yet
pub record Served : Type 0 where
  pub list : AgentList
  pub bytes : List (ℕ × FrameBytes)

-- no keys, no lock, no connection
abbrev pub idle : Bool → Served
idle asks = record { list = empty_list asks; bytes = [] }

abbrev pub bytes_at : List (ℕ × FrameBytes) → ℕ → FrameBytes
bytes_at all conn = unwrap_or (lookup (is_at (nat_cmp conn)) all) no_bytes

abbrev pub without : List (ℕ × FrameBytes) → ℕ → List (ℕ × FrameBytes)
without all conn = remove_entry (is_at (nat_cmp conn)) all

-- the connection gets these bytes
abbrev pub with_bytes : List (ℕ × FrameBytes) → ℕ → FrameBytes → List (ℕ × FrameBytes)
with_bytes all conn left = insert_entry nat_cmp (without all conn) conn left

-- ---- the inputs of bytes

-- inputs, and the bytes that remain after them
pub record Taken : Type 0 where
  pub inputs : List AgentInput
  pub left : FrameBytes

-- one more input, at the front
abbrev pub and_then : AgentInput → Taken → Taken
and_then input t = record t { inputs = input ∷ t.inputs }

abbrev pub taken_by : FrameBytes → Option (AgentInput × FrameBytes) → (FrameBytes → Taken) → Taken
taken_by s None on = record { inputs = []; left = s }
taken_by s (Some x) on = and_then x.0 (on x.1)

-- at most so many inputs
unfoldable pub taken_in : ℕ → FrameBytes → Taken
taken_in zero s = record { inputs = []; left = s }
taken_in (suc n) s = taken_by s (next_in s) (λ left. taken_in n left)

-- each input takes at least one byte, except a length above the limit, after which there is no input
abbrev pub most : FrameBytes → ℕ
most s = length s.bytes + (if s.over then 0 else 1)

-- all inputs that the bytes contain: whole frames in order, and a length above the limit
abbrev pub inputs_of : FrameBytes → List AgentInput
inputs_of s = (taken_in (most s) s).inputs

-- the bytes that remain after them
abbrev pub rest_of : FrameBytes → FrameBytes
rest_of s = (taken_in (most s) s).left

-- ---- records

-- an output, as it is reported; that memory ran out isn't reported
abbrev pub records_of : ℕ → AgentOutput → List Record
records_of conn (outputs.Answer whole) = Agent conn (agent.Answer whole) ∷ []
records_of conn (outputs.AskRequest message) = Agent conn (agent.AskRequest message) ∷ []
records_of conn (outputs.AskKey blob) = Agent conn (agent.AskKey blob) ∷ []
records_of conn outputs.Nothing = []
records_of conn (outputs.Closed causes.TooLong) = Agent conn (agent.Closed faults.TooLong) ∷ []
records_of conn (outputs.Closed causes.Unreadable) = Agent conn (agent.Closed faults.Unreadable) ∷ []
records_of conn (outputs.Closed causes.SignerRefused) = Agent conn (agent.Closed faults.SignerRefused) ∷ []
records_of conn (outputs.Closed causes.NoMemory) = []

-- ---- inputs

-- records, and the agent's state after them
pub record AfterInput : Type 0 where
  pub records : List Record
  pub list : AgentList

abbrev pub said_on : ℕ → Outcome → AfterInput
said_on conn o = record { records = records_of conn o.output; list = o.next }

-- the row of the input, with its record
abbrev pub input_turn : ℕ → ℕ → AgentInput → AgentList → Asking AfterInput
input_turn now conn input l = asked_on (said_on conn) (agent_row now conn input l)

-- the turn of an input, with these calls, ends in this state, and its record is appended to those before it
abbrev pub SaysInput : ℕ → ℕ → AgentInput → AgentList → List SignCall → AgentList → List Record → List Record → Type 0
SaysInput now conn input before gained after held held' = (sent : List Record) × (held' ≡ held ++ sent) × Makes (input_turn now conn input before) gained (record { records = sent; list = after })

-- these records, and then those
abbrev pub behind : List Record → AfterInput → AfterInput
behind records t = record t { records = records ++ t.records }

-- each input by its row, in order
unfoldable pub each_turn : ℕ → ℕ → List AgentInput → AgentList → Asking AfterInput
each_turn now conn [] l = done (record { records = []; list = l })
each_turn now conn (input ∷ inputs) l = then_asks (input_turn now conn input l) (λ t. asked_on (behind t.records) (each_turn now conn inputs t.list))

-- ---- events

pub record AgentTurn : Type 0 where
  pub records : List Record
  pub state : Served

abbrev pub conn_of : AgentEvent → ℕ
conn_of (events.Bytes conn piece) = conn
conn_of (events.Input conn input) = conn

-- the inputs that the event completes, or the one input that it is
abbrev pub event_inputs : AgentEvent → List (ℕ × FrameBytes) → List AgentInput
event_inputs (events.Bytes conn piece) all = inputs_of (pushed (bytes_at all conn) piece)
event_inputs (events.Input conn input) all = input ∷ []

-- the bytes that belong to no frame after the event
abbrev pub event_bytes : AgentEvent → List (ℕ × FrameBytes) → List (ℕ × FrameBytes)
event_bytes (events.Bytes conn piece) all = with_bytes all conn (rest_of (pushed (bytes_at all conn) piece))
event_bytes (events.Input conn input) all = all

abbrev pub kept_with : List (ℕ × FrameBytes) → AfterInput → AgentTurn
kept_with bytes t = record { records = t.records; state = record { list = t.list; bytes = bytes } }

-- the turn of an event at a moment
unfoldable pub agent_turn : ℕ → AgentEvent → Served → Asking AgentTurn
agent_turn now event s = asked_on (kept_with (event_bytes event s.bytes)) (each_turn now (conn_of event) (event_inputs event s.bytes) s.list)
