-- What an agent's event of a script does: its records, and the agent and the bytes of its connections afterwards. The
-- run continues after it, unless its fields are outside the grammar. The code reads the event, takes its inputs one by
-- one and writes their records.
use Rattle.std.specs.Prelude.{ℕ, Bool, Result, Ok, Err}
use Rattle.sshc_key.specs.Asking.{Asking, done, asked_on}
use Rattle.sshc_run_agent.specs.declared.event.AgentEvent.{AgentEvent}
use Rattle.sshc_run_agent.specs.AgentEvents.{agent_event_of}
use Rattle.sshc_run_agent.specs.AgentTurns.{AgentTurn, Served, agent_turn, idle}
use Rattle.sshc_run_reader.specs.declared.error.EventError.{EventError}
use Rattle.sshc_run_script.specs.declared.error.RunError.TheVariants as errors
use Rattle.sshc_run_script.specs.Machine.{Machine, TurnOf, Turns, goes_on}
use Rattle.sshc_run_script.specs.Turn.{stops}

-- the run continues after an agent's turn
abbrev pub going_on : AgentTurn → TurnOf Served
going_on t = record { records = t.records; state = t.state; next = goes_on }

-- the turn of an event at a moment
abbrev pub served_turn : ℕ → AgentEvent → Served → Asking (TurnOf Served)
served_turn moment event s = asked_on going_on (agent_turn moment event s)

-- by the event that the fields encode
abbrev pub agent_read_turn : ℕ → ℕ → Served → Result AgentEvent EventError → Asking (TurnOf Served)
agent_read_turn place moment s (Ok event) = served_turn moment event s
agent_read_turn place moment s (Err e) = done (stops s (errors.BadEvent place))

-- the turn of an agent's event, by its fields
unfoldable pub agents_turn : Turns Served
agents_turn s frame = agent_read_turn frame.place frame.moment s (agent_event_of frame.kind frame.fields)

-- the agent, as a machine: at first no keys, no lock and no connection
abbrev pub agents_machine : Bool → Machine Served
agents_machine asks = record { first = idle asks; turn = agents_turn }
