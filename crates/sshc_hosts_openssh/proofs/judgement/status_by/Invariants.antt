use Rattle.std.proofs.Common.{◌+◌, ◌≤◌, length}
use Rattle.sshc_key.specs.View.{view}
use Rattle.sshc_hosts_openssh.specs.HostStatus.{findings}
use Rattle.sshc_hosts_openssh.proofs.ReadingLemmas.{IsSoFar, findings_from}
use Rattle.sshc_hosts_openssh.proofs.judgement.status_by.Given as goal

abbrev pub invariant-lines : goal.invariant-lines
invariant-lines l =
    IsSoFar l.deciding (findings_from l.name (view l.key) l.number l.left) (findings l.text l.name (view l.key))
    × (l.number + length l.left ≤ length l.text + 1)

abbrev pub decreases-lines : goal.decreases-lines
decreases-lines l = length l.left
