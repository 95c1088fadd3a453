use Rattle.std.proofs.Common.{◌≡◌, ◌++◌, take, drop}
use Rattle.sshc_hosts.specs.Hmac.{padded_by}
use Rattle.sshc_hosts.proofs.hmac.padded.Given as goal

abbrev pub invariant-loop-k : goal.invariant-loop-k
invariant-loop-k l = l.k-items ≡ padded_by l.pad (take l.k-index l.block) ++ drop l.k-index l.block
