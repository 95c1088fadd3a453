-- What each step of an open session promises along a run, apart from the table of rows: how requests and opens of ours
-- are answered, that no bytes of a channel are written while keys are exchanged, and that no user is authenticated any
-- more (`OpenStepLaws` of sshc_client_table). Stated of every event of the session, the last one and one that stops the
-- run too.
use Rattle.std.specs.Prelude.{◌≡◌, ℕ, Bool, true, false, List, Option, Ok}
use Rattle.std.specs.List.{AllByRecursion}
use Rattle.sshc_key.specs.Asking.{Answer}
use Rattle.sshc_auth_event.specs.declared.event.Event.{Event}
use Rattle.sshc_client_packets.specs.HostKeyProof.{Accepts}
use Rattle.sshc_client_table.specs.SessionState.{SessionState, is_open}
use Rattle.sshc_client_table.specs.StepLaws.{OpenStepLaws}
use Rattle.sshc_run_reader.specs.EventReading.{event_of}
use Rattle.sshc_run_script.specs.Configured.{RunSettings}
use Rattle.sshc_run_script.specs.KnownHosts.{Hosts}
use Rattle.sshc_run_script.specs.Machine.{Onward, goes_on, opened, stopped}
use Rattle.sshc_run_script.specs.Path.{StepOf}
use Rattle.sshc_run_script.specs.SessionPaths.{EachPath}
use Rattle.sshc_run_script.specs.SessionTurn.{SessionTurn}

abbrev pub continues : Onward → Bool
continues goes_on = true
continues opened = true
continues (stopped stop) = false

-- the session after a turn, before its records were taken
abbrev pub untaken : SessionTurn → SessionState
untaken t = record t.state { records = t.records }

-- in an open session an event that can be read has the laws of a step
abbrev pub KeepsStepLaws : Accepts → StepOf SessionState → Type 0
KeepsStepLaws accepts x =
    is_open x.before.opening.phase ≡ true → (event : Event) → event_of x.frame.kind x.frame.fields ≡ Ok event → OpenStepLaws accepts event x.before (untaken x.turn) (continues x.turn.next)

-- so has each step of the session's events, by its own answers
abbrev pub StepsKeepLaws : Hosts → Accepts → RunSettings → ℕ → List Answer → Option (List ℕ) → Type 0
StepsKeepLaws hosts accepts settings max answers script = EachPath hosts accepts settings max answers script (λ steps s. AllByRecursion (KeepsStepLaws accepts) steps)
