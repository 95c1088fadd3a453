use Rattle.std.proofs.Common.{◌≡◌}
use Rattle.sshc_hosts_openssh.specs.Patterns.{matches}
use Rattle.sshc_hosts_openssh.specs.PatternSteps.{stop_matches, stop_seen, left_size}
use Rattle.sshc_hosts_openssh.proofs.pattern.matches_pattern.Given as goal

abbrev pub invariant-stars : goal.invariant-stars
invariant-stars l = stop_matches (stop_seen l.stop) ≡ matches l.pattern l.name

abbrev pub decreases-stars : goal.decreases-stars
decreases-stars l = left_size (stop_seen l.stop)
