use Rattle.std.proofs.Common.{◌≡◌, length}
use Rattle.sshc_hosts_openssh.specs.PatternSteps.{seek}
use Rattle.sshc_hosts_openssh.proofs.pattern.seek.Given as goal

abbrev pub invariant-places : goal.invariant-places
invariant-places l = seek l.pattern l.left ≡ seek l.pattern l.name

abbrev pub decreases-places : goal.decreases-places
decreases-places l = length l.left
