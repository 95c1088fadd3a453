use Rattle.std.proofs.Common.{◌≡◌, length}
use Rattle.sshc_hosts_openssh.specs.Lines.{words}
use Rattle.sshc_hosts_openssh.proofs.cutting.from_first_word.Given as goal

abbrev pub invariant-blanks : goal.invariant-blanks
invariant-blanks l = words l.left ≡ words l.text

abbrev pub decreases-blanks : goal.decreases-blanks
decreases-blanks l = length l.left
