use Rattle.std.proofs.Common.{ap}
use Rattle.sshc_hosts_openssh.specs.PatternSteps.{stop_seen}
use Rattle.sshc_hosts_openssh.proofs.PatternLemmas.{matching_on}
use Rattle.sshc_hosts_openssh.proofs.pattern.matches_pattern.Goals as goal

pub stars-preserved : goal.stars-preserved
stars-preserved c =
    matching_on c.in-Star.later.now c.in-Star.rest.now (stop_seen c.stars.stop) _ _ (ap stop_seen c.in-Star.is) c.seek-stop.ensures.stop c.stars.invariant
