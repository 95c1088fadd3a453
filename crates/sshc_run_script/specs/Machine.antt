-- A machine that takes the events of a script one at a time: an initial state, and what each event does. Whatever runs
-- over a script is a machine: the opening, later the session, and both with what else takes events.
use Rattle.std.specs.Prelude.{◌≡◌, List, Option, Some, None}
use Rattle.sshc_wire.specs.declared.record.Record.{Record}
use Rattle.sshc_key.specs.Asking.{Asking, Always}
use Rattle.sshc_auth.specs.declared.ended.Ended.{Ended}
use Rattle.sshc_auth.specs.declared.ended.Ended.TheVariants.{ScriptEnd}
use Rattle.sshc_run_script.specs.declared.error.RunError.{RunError}
use Rattle.sshc_run_reader.specs.Script.{Frame}

-- how a run stops: an end, a refusal, or a call of the signer without an answer
pub data RunStop : Type 0 where
  ended : Ended → RunStop
  refused : RunError → RunStop
  unanswered_stop : RunStop

-- the run continues, continues with the session open, or stops
pub data Onward : Type 0 where
  goes_on : Onward
  opened : Onward
  stopped : RunStop → Onward

-- what one event does: its records, the state afterwards, and whether the run continues
pub record TurnOf (S : Type 0) : Type 0 where
  pub records : List Record
  pub state : S
  pub next : Onward

-- the turn of an event from a state, by what the signer answers; one event may ask the signer more than once
abbrev pub Turns : Type 0 → Type 0
Turns S = S → Frame → Asking (TurnOf S)

pub record Machine (S : Type 0) : Type 0 where
  pub first : S
  pub turn : Turns S

-- how the run stops after a turn, if it does
abbrev pub stop_next : Onward → Option RunStop
stop_next goes_on = None
stop_next opened = None
stop_next (stopped stop) = Some stop

-- no turn ends with the script's end
abbrev pub IsNoEnd : {S : Type 0} → TurnOf S → Type 0
IsNoEnd t = t.next ≡ stopped (ended ScriptEnd) → ⊥

abbrev pub NeverAtEnd : {S : Type 0} → Turns S → Type 0
NeverAtEnd {S = S} turn = (s : S) (frame : Frame) → Always IsNoEnd (turn s frame)
