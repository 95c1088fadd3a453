-- What is the session's own in a run: every event but an agent's, every record but an agent's, and the session's calls
-- of the signer. The others are the agents'.
use Rattle.std.specs.Prelude.{◌≡◌, Bool, true, false, not, Err}
use Rattle.sshc_key.specs.declared.signer.Asker.{Asker}
use Rattle.sshc_key.specs.declared.signer.Asker.TheVariants.{Session, Agent}
use Rattle.sshc_run_script.specs.declared.error.RunError.TheVariants as errors
use Rattle.sshc_run_agent.specs.AgentEvents.{agent_event_of}
use Rattle.sshc_client_table.specs.SessionRecords.{is_session_record}
use Rattle.sshc_run_reader.specs.declared.error.EventError.{EventError}
use Rattle.sshc_run_reader.specs.declared.event_kind.EventKind.{EventKind}
use Rattle.sshc_run_reader.specs.EventKinds.{is_agent_kind}
use Rattle.sshc_run_script.specs.Machine.{RunStop, refused}
use Rattle.sshc_run_script.specs.Part.{Own}
use Rattle.sshc_run_reader.specs.Script.{Frame}

abbrev pub is_session_kind : EventKind → Bool
is_session_kind kind = not (is_agent_kind kind)

abbrev pub is_session_asker : Asker → Bool
is_session_asker Session = true
is_session_asker (Agent connection) = false

abbrev pub session_own : Own
session_own = record { event = λ frame. is_session_kind frame.kind; output = is_session_record; asker = is_session_asker }

-- why an agent's event stops a run: its fields are outside the grammar
abbrev pub IsAgentCause : Frame → RunStop → Type 0
IsAgentCause frame stop = (e : EventError) × (agent_event_of frame.kind frame.fields ≡ Err e) × (stop ≡ refused (errors.BadEvent frame.place))
