-- The paths of a run's session: over the session's own events among those of a script, by the answers of its own calls.
-- A guarantee of each of them holds of each state that the session comes to, and of its last event.
use Rattle.std.specs.Prelude.{◌≡◌, ℕ, List, Option, Some}
use Rattle.sshc_key.specs.Asking.{Answer}
use Rattle.sshc_client_packets.specs.HostKeyProof.{Accepts}
use Rattle.sshc_client_state.specs.Start.{new_session}
use Rattle.sshc_client_table.specs.SessionState.{SessionState}
use Rattle.sshc_run_reader.specs.Script.{taken}
use Rattle.sshc_run_script.specs.Configured.{RunSettings}
use Rattle.sshc_run_script.specs.KnownHosts.{Hosts}
use Rattle.sshc_run_script.specs.Part.{own_events}
use Rattle.sshc_run_script.specs.Path.{Path, StepOf}
use Rattle.sshc_run_script.specs.SessionPart.{session_own}
use Rattle.sshc_run_script.specs.SessionTurn.{session_turn}

-- each path of the session over the first events of a script
abbrev pub EachPath : Hosts → Accepts → RunSettings → ℕ → List Answer → Option (List ℕ) → (List (StepOf SessionState) → SessionState → Type 0) → Type 0
EachPath hosts accepts settings max answers script Holds =
    (bytes : List ℕ) → script ≡ Some bytes → (steps : List (StepOf SessionState)) (s : SessionState) →
    Path (session_turn hosts accepts) (new_session settings.session settings.opening) (own_events session_own (taken max bytes)) answers steps s → Holds steps s
