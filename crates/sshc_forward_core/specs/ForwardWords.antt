-- The program: the line that reports a run's result, and the exit status.
use Rattle.std.specs.Prelude.{◌≡◌, ◌⊎◌, ℕ, Bool, true, false, List, [], ◌∷◌, ◌++◌, Result, Ok, Err, codes}
use Rattle.std.specs.Fmt.{decimal}
use Rattle.sshc_wire.specs.Contents.{append, WroteFront}
use Rattle.sshc_wire.specs.Faults.{Rose}
use Rattle.sshc_forward_core.specs.declared.error.FwdError.{FwdError}
use Rattle.sshc_forward_core.specs.declared.error.FwdError.TheVariants as errors
use Rattle.sshc_forward_core.specs.ForwardPromises.{Outside, SinkState, ForwardPromises}

-- ---- a line

-- the line was written and the status is its own; or it was cut, and the status is 22 if the sink failed, else 20. The
-- sink's count of faults rises only with 22
abbrev pub Adds : List ℕ → ℕ → SinkState → SinkState → ℕ → Type 0
Adds line own before now status =
    ((status ≡ own) × (now.contents ≡ append before.contents line) × (now.faults ≡ before.faults))
    ⊎ (WroteFront before.contents now.contents line
    × (((status ≡ 22) × Rose before.faults now.faults) ⊎ ((status ≡ 20) × (now.faults ≡ before.faults))))

-- ---- how a run is reported

abbrev pub error_name : FwdError → List ℕ
error_name errors.NoMemory = codes "no-memory"
error_name errors.ReadFault = codes "read-fault"
error_name errors.WriteFault = codes "write-fault"
error_name (errors.BadEvent place) = codes "bad-event " ++ decimal place
error_name (errors.Taken place) = codes "taken " ++ decimal place

-- the line that reports a result: how many pairs are left, or the error
abbrev pub answer_line : Result ℕ FwdError → List ℕ
answer_line (Ok left) = codes "left " ++ decimal left ++ 10 ∷ []
answer_line (Err e) = codes "error " ++ error_name e ++ 10 ∷ []

abbrev pub error_status : FwdError → ℕ
error_status errors.NoMemory = 20
error_status errors.ReadFault = 21
error_status errors.WriteFault = 22
error_status (errors.BadEvent place) = 24
error_status (errors.Taken place) = 44

abbrev pub status_of : Result ℕ FwdError → ℕ
status_of (Ok left) = 0
status_of (Err e) = error_status e

-- a write of the run failed
abbrev pub is_write_fault : Result ℕ FwdError → Bool
is_write_fault (Err errors.WriteFault) = true
is_write_fault answer = false

abbrev pub TellsBy : Bool → Result ℕ FwdError → SinkState → SinkState → ℕ → Type 0
TellsBy true answer before now status = (status ≡ 22) × (now ≡ before)
TellsBy false answer before now status = Adds (answer_line answer) (status_of answer) before now status

-- the line that reports the result is added; after a failed write of the run nothing is
abbrev pub Tells : Result ℕ FwdError → SinkState → SinkState → ℕ → Type 0
Tells answer before now status = TellsBy (is_write_fault answer) answer before now status

-- ---- the program

-- a run of the source's events, with all guarantees of `run_forward`, and then the line that reports its result
abbrev pub RunsBy : Outside → Outside → ℕ → Type 0
RunsBy before now status =
    (answer : Result ℕ FwdError) × (behind : SinkState)
    × ForwardPromises before (record now { sink = behind }) answer
    × Tells answer behind now.sink status

-- there are arguments: `error words`, and nothing was read
pub record RefusesWords (before now : Outside) (status : ℕ) : Type 0 where
  pub adds : Adds (codes "error words\n") 2 before.sink now.sink status
  pub unread : now.source ≡ before.source
