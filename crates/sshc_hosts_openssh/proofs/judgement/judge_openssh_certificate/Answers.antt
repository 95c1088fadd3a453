use Rattle.std.proofs.Common.{rules}
use Rattle.sshc_hosts_openssh.proofs.AcceptanceLemmas.{result_unrevoked}
use Rattle.sshc_hosts_openssh.proofs.judgement.judge_openssh_certificate.Goals as goal

pub returns-clause-status : goal.returns-clause-status
returns-clause-status g c = search rules

pub returns-clause-unrevoked : goal.returns-clause-unrevoked
returns-clause-unrevoked g c = result_unrevoked c.args.text.now c.args.host.now c.args.port c.args.key.now.0 _ _ (returns-clause-status g c)
