use Rattle.sshc_handle_state.proofs.DealingLemmas.{hands_fault}
use Rattle.sshc_handle_state.proofs.dealing.begin.Goals as goal

pub returns-in-Err-Fault-clause-ok : goal.returns-in-Err-Fault-clause-ok
returns-in-Err-Fault-clause-ok g c =
    let output = c.in-Err-Fault.ensures in
    hands_fault _ _ _ _ _ c.if-failed.false output.handed output.answered c.in-Err-Fault.field-0-is output.cause
