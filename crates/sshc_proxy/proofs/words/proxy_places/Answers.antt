use Rattle.std.proofs.Common.{refl}
use Rattle.sshc_proxy.specs.ProxyWords.{bad_policy, serving}
use Rattle.sshc_proxy.proofs.words.proxy_places.Goals as goal

pub returns-in-Ok-clause-ends : goal.returns-in-Ok-clause-ends
returns-in-Ok-clause-ends g c = let p = c.in-Ok.ensures.policy in serving p.0 p.1 p.2 (rw (← p.3) c.serve.ensures.serving)

pub returns-in-Err-BadLine-clause-ends : goal.returns-in-Err-BadLine-clause-ends
returns-in-Err-BadLine-clause-ends g c = let p = rw c.in-Err-BadLine.field-0-is at c.in-Err-BadLine.ensures.policy in bad_policy p.0 c.in-Err-BadLine.line p.1 p.2 c.say_bad_line.ensures.says refl
