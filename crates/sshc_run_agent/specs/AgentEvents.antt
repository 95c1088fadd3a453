-- The fields of an agent's events, read one after the other (docs/FORMATS.md, "Events"); no byte may remain, except the
-- bytes of a connection.
-- The definitions are functions of all bytes; the code moves a cursor.
use Rattle.std.specs.Prelude.{Ok, Err}
use Rattle.sshc_wire.specs.Format.{both_at, made_at}
use Rattle.sshc_wire.specs.Grammar.{finished_at}
use Rattle.sshc_wire.specs.Reads.{◌>>=◌}
use Rattle.sshc_wire.specs.Whole.{WholeReader}
use Rattle.sshc_agent_core.specs.declared.input.AgentInput.TheVariants as inputs
use Rattle.sshc_run_reader.specs.declared.error.EventError.{EventError}
use Rattle.sshc_run_reader.specs.declared.error.EventError.TheVariants.{Bad}
use Rattle.sshc_run_reader.specs.declared.event_kind.EventKind.{EventKind}
use Rattle.sshc_run_reader.specs.declared.event_kind.EventKind.TheVariants as kinds
use Rattle.sshc_run_reader.specs.EventParts.{flag_at, u32_at}
use Rattle.sshc_run_agent.specs.declared.event.AgentEvent.{AgentEvent}
use Rattle.sshc_run_agent.specs.declared.event.AgentEvent.TheVariants as events

-- a connection, and all bytes that follow
unfoldable pub bytes_event_of : WholeReader EventError AgentEvent
bytes_event_of fields = u32_at fields >>= λ conn. Ok (events.Bytes conn.0 conn.1)

-- a connection and the user's answer
unfoldable pub request_answer_of : WholeReader EventError AgentEvent
request_answer_of fields = finished_at Bad (made_at (λ x. events.Input x.0 (inputs.RequestAnswer x.1)) (both_at u32_at flag_at)) fields

unfoldable pub key_answer_of : WholeReader EventError AgentEvent
key_answer_of fields = finished_at Bad (made_at (λ x. events.Input x.0 (inputs.KeyAnswer x.1)) (both_at u32_at flag_at)) fields

-- a connection
unfoldable pub close_event_of : WholeReader EventError AgentEvent
close_event_of fields = finished_at Bad (made_at (λ conn. events.Input conn inputs.Close) u32_at) fields

-- the agent's event of a kind with these fields; Bad for a session's kinds
unfoldable pub agent_event_of : EventKind → WholeReader EventError AgentEvent
agent_event_of kinds.AgentBytes fields = bytes_event_of fields
agent_event_of kinds.AgentRequestAnswer fields = request_answer_of fields
agent_event_of kinds.AgentKeyAnswer fields = key_answer_of fields
agent_event_of kinds.AgentClose fields = close_event_of fields
agent_event_of kind fields = Err Bad
