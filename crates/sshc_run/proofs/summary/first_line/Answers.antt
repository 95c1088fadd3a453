use Rattle.sshc_run.proofs.TextLines.{no_line, next_line}
use Rattle.sshc_run.proofs.summary.first_line.Goals as goal

pub returns-in-Some-clause-some : goal.returns-in-Some-clause-some
returns-in-Some-clause-some c = next_line _ _ c.in-Some.ensures

pub returns-in-None-clause-none : goal.returns-in-None-clause-none
returns-in-None-clause-none c = no_line _ c.in-None.ensures
