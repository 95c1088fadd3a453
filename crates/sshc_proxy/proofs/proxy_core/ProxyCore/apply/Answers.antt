use Rattle.sshc_proxy.proofs.VerdictLemmas.{told_remembers}
use Rattle.sshc_proxy.proofs.proxy_core.ProxyCore.apply.Goals as goal

pub returns-clause-history : goal.returns-clause-history
returns-clause-history c = λ accepts steps is knows. told_remembers accepts _ _ _ _ _ _ steps is c.take.ensures.row knows
