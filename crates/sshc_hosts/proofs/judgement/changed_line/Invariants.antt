use Rattle.std.proofs.Common.{◌≡◌, drop}
use Rattle.std.specs.Prelude.{find}
use Rattle.sshc_hosts.specs.Judgement.{contradicts}
use Rattle.sshc_hosts.proofs.judgement.changed_line.Given as goal

abbrev pub invariant-loop-line : goal.invariant-loop-line
invariant-loop-line l = find (contradicts l.key.0) l.known ≡ find (contradicts l.key.0) (drop l.line-index l.known)
