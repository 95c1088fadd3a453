-- What became of events, as a caller in C gets it: a status, and the place or line that an error names. The statuses of
-- errors are the program's (docs/FORMATS.md).
use Rattle.std.specs.Prelude.{ℕ}
use Rattle.sshc_auth.specs.declared.ended.Ended.{Ended}
use Rattle.sshc_auth.specs.declared.ended.Ended.TheVariants as ends
use Rattle.sshc_run_script.specs.declared.error.RunError.{RunError}
use Rattle.sshc_run_script.specs.declared.error.RunError.TheVariants as errors
use Rattle.sshc_run_script.specs.declared.run_step.RunStep.{RunStep}
use Rattle.sshc_run_script.specs.declared.run_step.RunStep.TheVariants as steps
use Rattle.sshc_run_script.specs.Words.{error_status}
use Rattle.sazhonthil.specs.declared.step_answer.StepAnswer.{StepAnswer}

abbrev pub step_answer : ℕ → ℕ → StepAnswer
step_answer status detail = record { status = status; detail = detail }

abbrev pub end_status : Ended → ℕ
end_status (ends.RemoteDisconnect info) = 9
end_status ends.Disconnected = 10
end_status ends.Closed = 11
end_status ends.ScriptEnd = 0

-- the place of the event in all bytes that were handed in, or the line of the known hosts text
abbrev pub error_detail : RunError → ℕ
error_detail (errors.BadEvent place) = place
error_detail (errors.OutOfTurn place) = place
error_detail (errors.KeyChanged line) = line
error_detail (errors.Revoked line) = line
error_detail e = 0

abbrev pub answer_of : RunStep → StepAnswer
answer_of steps.Went = step_answer 0 0
answer_of (steps.Ended e) = step_answer (end_status e) 0
answer_of (steps.Refused e) = step_answer (error_status e) (error_detail e)
answer_of steps.Closed = step_answer 8 0
