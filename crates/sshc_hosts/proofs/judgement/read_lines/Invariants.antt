use Rattle.std.proofs.Common.{drop}
use Rattle.sshc_hosts.specs.Judgement.{keys_seen}
use Rattle.sshc_hosts.proofs.JudgementLemmas.{IsReadSoFar}
use Rattle.sshc_hosts.proofs.judgement.read_lines.Given as goal

abbrev pub invariant-loop-line : goal.invariant-loop-line
invariant-loop-line l = IsReadSoFar l.lines (drop l.line-index l.lines) (keys_seen l.keys)
