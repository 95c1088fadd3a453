use Rattle.sshc_run_script.proofs.TakenEvents.{written_turn, cut_turn}
use Rattle.sshc_run_script.proofs.turn.step_event.Goals as goal

pub returns-in-Ok-clause-gives : goal.returns-in-Ok-clause-gives
returns-in-Ok-clause-gives g c =
    rw (c.stop_at.ensures, c.step_session-step.ensures.moved.0, c.clear_records.ensures)
    (written_turn _ _ _ c.step_session-step.result _ _ _ _ c.step_session-step.ensures.came (rw c.records.ensures at c.in-Ok.ensures.whole))

pub returns-in-Err-clause-gives : goal.returns-in-Err-clause-gives
returns-in-Err-clause-gives g c =
    cut_turn _ _ _ c.step_session-step.result _ _ _ _ c.in-Err.failed _ c.step_session-step.ensures.came (rw c.records.ensures at c.in-Err.ensures.cut) c.write_failed.ensures
