use Rattle.std.proofs.Common.{◌≡◌, ◌≤◌, length}
use Rattle.sshc_hosts_openssh.specs.PatternSteps.{front}
use Rattle.sshc_hosts_openssh.proofs.pattern.front.Given as goal

abbrev pub invariant-bytes : goal.invariant-bytes
invariant-bytes l = (front l.pattern_left l.name_left ≡ front l.pattern l.name) × (length l.pattern_left ≤ length l.pattern)

abbrev pub decreases-bytes : goal.decreases-bytes
decreases-bytes l = length l.pattern_left
