-- Over a whole run the agent's answers are those of one history of one agent (draft-miller-ssh-agent): the history
-- begins with an agent that holds nothing, each input of the agents' events is one entry, in order, and the agent's
-- records among those of the run are what the entries report. So what is true of every history is true of every run,
-- including the lock. Stated of lists of entries; the code keeps no such list.
use Rattle.std.specs.Prelude.{◌≡◌, ℕ, Bool, List, [], ◌∷◌, ◌++◌, Option, Some, Result, Ok, Err}
use Rattle.sshc_agent_core.specs.declared.entry.Entry.{Entry}
use Rattle.sshc_agent_core.specs.declared.input.AgentInput.{AgentInput}
use Rattle.sshc_agent_core.specs.AgentFrames.{FrameBytes}
use Rattle.sshc_agent_core.specs.AgentHistory.{AreNumbered, Leads}
use Rattle.sshc_agent_core.specs.AgentList.{AgentList, empty_list}
use Rattle.sshc_agent_core.specs.LockLaw.{LocksHold}
use Rattle.sshc_agent_core.specs.SignedEntries.{SignaturesArePermitted}
use Rattle.sshc_run_agent.specs.declared.event.AgentEvent.{AgentEvent}
use Rattle.sshc_run_agent.specs.AgentEvents.{agent_event_of}
use Rattle.sshc_run_agent.specs.AgentTurns.{conn_of, event_bytes, event_inputs}
use Rattle.sshc_run_agent.specs.TurnLaws.{reported}
use Rattle.sshc_run_reader.specs.declared.error.EventError.{EventError}
use Rattle.sshc_run_reader.specs.Script.{Frame, taken}
use Rattle.sshc_run_script.specs.Prefixes.{IsFront}
use Rattle.sshc_run_script.specs.Part.{own_events, own_records}
use Rattle.sshc_run_script.specs.Product.{others}
use Rattle.sshc_run_script.specs.ScriptRun.{Run}
use Rattle.sshc_run_script.specs.SessionPart.{session_own}

-- ---- the inputs of the agent

-- an input, with its moment and its connection
pub record TimedInput : Type 0 where
  pub moment : ℕ
  pub conn : ℕ
  pub input : AgentInput

abbrev pub inputs_at : ℕ → ℕ → List AgentInput → List TimedInput
inputs_at moment conn [] = []
inputs_at moment conn (input ∷ inputs) = record { moment = moment; conn = conn; input = input } ∷ inputs_at moment conn inputs

-- the inputs of an event that can be read, and then those of the events after it
abbrev pub inputs_by_event : List (ℕ × FrameBytes) → ℕ → Result AgentEvent EventError → (List (ℕ × FrameBytes) → List TimedInput) → List TimedInput
inputs_by_event bytes moment (Ok event) later = inputs_at moment (conn_of event) (event_inputs event bytes) ++ later (event_bytes event bytes)
inputs_by_event bytes moment (Err e) later = []

-- the inputs of agents' events in order, where these bytes of each connection are in no frame yet
unfoldable pub inputs_along : List (ℕ × FrameBytes) → List Frame → List TimedInput
inputs_along bytes [] = []
inputs_along bytes (frame ∷ frames) = inputs_by_event bytes frame.moment (agent_event_of frame.kind frame.fields) (λ more. inputs_along more frames)

-- the inputs of the entries
abbrev pub inputs_in : List Entry → List TimedInput
inputs_in [] = []
inputs_in (e ∷ entries) = record { moment = e.moment; conn = e.conn; input = e.input } ∷ inputs_in entries

-- ---- the history

-- a history of one agent that holds nothing at first: its first inputs are those of these events, and these are the
-- agent's records
pub record IsOneHistory (asks : Bool) (frames : List Frame) (r : Run) : Type 0 where
  pub entries : List Entry
  pub last : AgentList
  pub leads : Leads (empty_list asks) entries last
  pub numbers : AreNumbered [] entries
  pub inputs : IsFront (inputs_in entries) (inputs_along [] (own_events (others session_own) frames))
  pub reports : own_records (others session_own) r.records ≡ reported entries
  -- after an acknowledged lock nothing is signed, listed or changed, except by time, until the lock is removed
  pub locks : LocksHold entries
  -- each signature is by a key that was held, confirmed if the key wants that, and made while the agent wasn't locked
  pub signed : SignaturesArePermitted entries

-- the whole run of a script has such a history
abbrev pub HasOneHistory : Bool → ℕ → (List ℕ → Run) → Option (List ℕ) → Type 0
HasOneHistory asks max table script = (bytes : List ℕ) → script ≡ Some bytes → IsOneHistory asks (taken max bytes) (table bytes)
