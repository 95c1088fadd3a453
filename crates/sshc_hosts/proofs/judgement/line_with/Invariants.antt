use Rattle.std.proofs.Common.{◌≡◌, drop}
use Rattle.std.specs.Prelude.{find}
use Rattle.sshc_hosts.specs.Judgement.{has_key}
use Rattle.sshc_hosts.proofs.judgement.line_with.Given as goal

abbrev pub invariant-loop-line : goal.invariant-loop-line
invariant-loop-line l = find (has_key l.key.0) l.known ≡ find (has_key l.key.0) (drop l.line-index l.known)
