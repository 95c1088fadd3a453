use Rattle.sshc_audit.proofs.LineText.{with_rest}
use Rattle.sshc_audit.proofs.line.line_with.Goals as goal

pub returns-in-Some : goal.returns-in-Some
returns-in-Some c = with_rest c.args.mark c.args.host.now c.args.rest.now c.cut.result.0.now c.in-Some.behind.now c.cut-in-Some.result.0.now c.cut-in-Some.result.1
    (rw c.in-Some.is at c.cut.ensures.some) c.cut-in-Some.ensures.none c.cut-in-Some.ensures.some
