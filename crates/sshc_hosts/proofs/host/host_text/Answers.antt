use Rattle.std.proofs.Common.{arith}
use Rattle.std.proofs.lemmas.Grind.{common_steps}
use Rattle.sshc_hosts.specs.HostText.{host_text}
use Rattle.sshc_hosts.proofs.host.host_text.Goals as goal

pub returns-then-port-eq-DEFAULT_PORT : goal.returns-then-port-eq-DEFAULT_PORT
unfolding host_text
returns-then-port-eq-DEFAULT_PORT c = grind (arith, common_steps)

pub returns-in_ok-format : goal.returns-in_ok-format
unfolding host_text
returns-in_ok-format c = grind (arith, common_steps)
