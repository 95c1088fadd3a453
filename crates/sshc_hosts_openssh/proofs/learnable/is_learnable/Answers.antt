use Rattle.std.proofs.Common.{ℕ, List, subst, sym, ◌∙◌, arith}
use Rattle.sshc_hosts.specs.HostText.{host_text}
use Rattle.sshc_hosts.specs.Learning.{IsLearnable}
use Rattle.sshc_hosts_openssh.proofs.LearnableLemmas.{all_learnable}
use Rattle.sshc_hosts_openssh.proofs.learnable.is_learnable.Goals as goal

pub returns-then-host-gt0-clause-law : goal.returns-then-host-gt0-clause-law
returns-then-host-gt0-clause-law c = λ is port.
    subst (λ (h : List ℕ). IsLearnable h (host_text h port)) c.as_bytes-host.ensures.value
    (all_learnable c.as_bytes-host.result.now port (omega (arith, c.if-host-gt0.true)) (sym c.all_host_bytes.ensures ∙ is))
