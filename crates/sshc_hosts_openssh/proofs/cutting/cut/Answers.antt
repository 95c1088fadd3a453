use Rattle.std.proofs.Common.{sym}
use Rattle.sshc_hosts.proofs.Splits.{split_whole}
use Rattle.sshc_hosts_openssh.proofs.WordLemmas.{parts_are}
use Rattle.sshc_hosts_openssh.proofs.cutting.cut.Goals as goal

pub returns-in-None-clause-none : goal.returns-in-None-clause-none
returns-in-None-clause-none c = split_whole _ _ (sym c.in-None.ensures)

pub returns-in-Some-clause-some : goal.returns-in-Some-clause-some
returns-in-Some-clause-some c = parts_are _ _ _ c.in-Some.ensures
