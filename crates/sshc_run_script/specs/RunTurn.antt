-- What one event of a script does, with a session and an agent side by side: a session's event is the session's, an
-- agent's event the agent's, in whatever order they come. Neither sees the other's state; they share the signer and the
-- order of the records.
use Rattle.sshc_run_agent.specs.AgentTurns.{Served}
use Rattle.sshc_client_table.specs.SessionState.{SessionState}
use Rattle.sshc_client_packets.specs.HostKeyProof.{Accepts}
use Rattle.sshc_run_script.specs.AgentsTurn.{agents_machine, agents_turn}
use Rattle.sshc_run_script.specs.Configured.{RunSettings}
use Rattle.sshc_run_script.specs.KnownHosts.{Hosts}
use Rattle.sshc_run_script.specs.Machine.{Machine, Turns}
use Rattle.sshc_run_script.specs.Product.{Both, both_machine, both_turn}
use Rattle.sshc_run_script.specs.SessionPart.{session_own}
use Rattle.sshc_run_script.specs.SessionTurn.{session_machine, session_turn}

-- the session, and the agent with the bytes of its connections
abbrev pub RunState : Type 0
RunState = Both SessionState Served

abbrev pub kept : SessionState → Served → RunState
kept session agents = record { one = session; other = agents }

-- the turn of an event
abbrev pub run_turn : Hosts → Accepts → Turns RunState
run_turn hosts accepts = both_turn session_own (session_turn hosts accepts) agents_turn

-- both, each with its initial state
abbrev pub run_machine : Hosts → Accepts → RunSettings → Machine RunState
run_machine hosts accepts settings = both_machine session_own (session_machine hosts accepts settings) (agents_machine settings.agent_asks)
