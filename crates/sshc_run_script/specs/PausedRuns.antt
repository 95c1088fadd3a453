-- What is guaranteed of a run whose events come one at a time: at each pause, and at its end, what it was handed, asked
-- and wrote so far has the guarantees of a run of a script of these events. The code keeps no history; it is an
-- argument of the clauses.
use Rattle.std.specs.Prelude.{◌≡◌, ◌+◌, ℕ, List, [], ◌++◌, length, drop, Some, true, false, Result, Ok, Err}
use Rattle.std.specs.List.{flat_map}
use Rattle.sshc_wire.specs.declared.record.Record.{Record}
use Rattle.sshc_key.specs.Signers.{SignCall}
use Rattle.sshc_auth.specs.declared.ended.Ended.{Ended}
use Rattle.sshc_auth.specs.declared.ended.Ended.TheVariants.{ScriptEnd}
use Rattle.sshc_client_packets.specs.HostKeyProof.{Accepts}
use Rattle.sshc_run_script.specs.declared.error.RunError.{RunError}
use Rattle.sshc_run_script.specs.declared.run_step.RunStep.{RunStep}
use Rattle.sshc_run_script.specs.declared.run_step.RunStep.TheVariants as steps
use Rattle.sshc_run_script.specs.LoopInvariant.{BringsTo}
use Rattle.sshc_run_script.specs.Paused.{Paused, spot_of}
use Rattle.sshc_run_script.specs.RecordLines.{lines}
use Rattle.sshc_run_script.specs.RunOutside.{RunOutside, run_outside, sink_state, source_state}
use Rattle.sshc_run_script.specs.RunPromises.{RunAsked, RunPromises}
use Rattle.sshc_run_script.specs.RunTurn.{run_machine, run_turn}
use Rattle.sshc_run_script.specs.ScriptRun.{at_first, run}

-- ---- what a run did so far

-- the bytes of the events that it was handed, the signer's calls that it made, and the bytes of the lines that it left
pub record History : Type 0 where
  pub script : List ℕ
  pub calls : List SignCall
  pub text : List ℕ

abbrev pub nothing_yet : History
nothing_yet = record { script = []; calls = []; text = [] }

-- with these events, calls and lines after it
abbrev pub followed_by : History → List ℕ → List SignCall → List ℕ → History
followed_by h events calls text = record { script = h.script ++ events; calls = h.calls ++ calls; text = h.text ++ text }

-- the bytes that were added to a buffer
abbrev pub text_since : List ℕ → List ℕ → List ℕ
text_since old new = drop (length old) new

-- ---- its guarantees

-- a source with these bytes left, a sink that holds these lines, and a signer that was called so; no count of them is
-- used
abbrev pub outside_of : List ℕ → List ℕ → List SignCall → RunOutside
outside_of left held calls = run_outside (source_state (Some left) 0 0 0) (sink_state (Some held) 0 0 0) calls

-- the history has the guarantees of a run of a script of these events that returned this, where these bytes were left
-- unread
abbrev pub HasRun : RunAsked → History → List ℕ → Result Ended RunError → Type 0
HasRun asked h left answer = RunPromises asked (outside_of h.script [] []) (outside_of left h.text h.calls) answer

-- the run is between two events, after this history: the history has the guarantees of a run of a script that ends
-- here; and whatever events follow, and whatever the signer answers then, the tables go on from here
pub record IsRun (asked : RunAsked) (h : History) (p : Paused) : Type 0 where
  pub promised : HasRun asked h [] (Ok ScriptEnd)
  pub hosts : p.hosts ≡ asked.hosts
  pub going : p.over ≡ false
  pub turns : ℕ
  pub count : turns + p.remaining ≡ asked.max_events
  pub records : List Record
  pub text : h.text ≡ lines records
  pub brings : BringsTo (run (run_turn asked.hosts asked.accepts)) (at_first (run_machine asked.hosts asked.accepts asked.settings).first) asked.max_events turns (spot_of p) h.script h.calls records

-- a run that returned this was handed the first of these events, in order: it has the guarantees of a run of a script
-- of their bytes
abbrev pub HasRunOn : RunAsked → List (List ℕ) → List SignCall → List ℕ → Result Ended RunError → Type 0
HasRunOn asked events calls text answer =
    (handed later : List (List ℕ)) × (left : List ℕ) × (events ≡ handed ++ later) × HasRun asked (record { script = flat_map (λ event. event) handed; calls = calls; text = text }) left answer

-- ---- one call

-- what became of the events, by how the run over them ended: at their end it only pauses
abbrev pub step_of : Result Ended RunError → RunStep
step_of (Ok ScriptEnd) = steps.Went
step_of (Ok e) = steps.Ended e
step_of (Err e) = steps.Refused e

-- an event stopped the run: after whatever history, with these events, calls and lines it has the guarantees of a run
-- that returned this
abbrev pub Stopped : Accepts → Paused → List ℕ → List SignCall → List ℕ → Paused → Result Ended RunError → Type 0
Stopped accepts old events calls text new answer =
    (old.over ≡ false) × (new.over ≡ true)
    × ((asked : RunAsked) (h : History) → asked.accepts ≡ accepts → IsRun asked h old → (left : List ℕ) × HasRun asked (followed_by h events calls text) left answer)

-- what became of the events
abbrev pub Takes : Accepts → Paused → List ℕ → List SignCall → List ℕ → Paused → RunStep → Type 0
Takes accepts old events calls text new steps.Went =
    (old.over ≡ false) × (new.over ≡ false) × ((asked : RunAsked) (h : History) → asked.accepts ≡ accepts → IsRun asked h old → IsRun asked (followed_by h events calls text) new)
Takes accepts old events calls text new (steps.Ended e) = Stopped accepts old events calls text new (Ok e)
Takes accepts old events calls text new (steps.Refused e) = Stopped accepts old events calls text new (Err e)
Takes accepts old events calls text new steps.Closed = (old.over ≡ true) × (new ≡ old) × (calls ≡ []) × (text ≡ [])
