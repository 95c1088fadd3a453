use Rattle.std.proofs.Common.{arith}
use Rattle.sshc_run_script.proofs.paused_run.paused_at.Goals as goal

pub invariant_of-result : goal.invariant_of-result
invariant_of-result c = (c.requires.ready, omega (arith, c.requires.place))
