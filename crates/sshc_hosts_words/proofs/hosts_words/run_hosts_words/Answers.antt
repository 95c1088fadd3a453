use Rattle.std.proofs.Common.{refl}
use Rattle.sshc_hosts_words.proofs.hosts_words.run_hosts_words.Goals as goal

pub returns-in-Some-clause-other : goal.returns-in-Some-clause-other
returns-in-Some-clause-other g c = λ none. absurd (none _ c.in-Some.ensures.some)

pub returns-in-None-clause-hosts : goal.returns-in-None-clause-hosts
returns-in-None-clause-hosts g c = λ asked is. absurd (c.in-None.ensures.none refl asked is)
