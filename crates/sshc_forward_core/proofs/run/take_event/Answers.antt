use Rattle.sshc_forward_core.proofs.RunLemmas.{one_failed}
use Rattle.sshc_forward_core.proofs.run.take_event.Goals as goal

pub returns-in-Ok-Some-clause-gives : goal.returns-in-Ok-Some-clause-gives
returns-in-Ok-Some-clause-gives g c =
    let read = rw c.in-Ok-Some.field-0-is at c.in-Ok-Some.ensures.gives in
    one_failed (Unit {0}) c.in-Ok-Some.event c.in-Ok-Some.size _ _ _ _ _ c.step_event.new.core _ c.args.at.now c.in-Err-step_event.e read c.in-Err-step_event.ensures.gives
