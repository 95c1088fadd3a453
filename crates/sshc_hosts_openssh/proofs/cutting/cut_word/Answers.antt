use Rattle.std.proofs.Common.{sym}
use Rattle.sshc_hosts_openssh.proofs.WordLemmas.{whole_word, word_before}
use Rattle.sshc_hosts_openssh.proofs.cutting.cut_word.Goals as goal

pub returns-in-None : goal.returns-in-None
returns-in-None c begins = whole_word _ begins (sym c.in-None.ensures)

pub returns-in-Some : goal.returns-in-Some
returns-in-Some c begins = word_before _ _ begins c.in-Some.ensures
