use Rattle.std.proofs.Common.{◌≡◌, ◌+◌, ◌≤◌, length, codes}
use Rattle.sshc_run.specs.Summary.{begun, whole_lines}
use Rattle.sshc_run.proofs.summary.counts_of.Given as goal

abbrev pub invariant-loop-line : goal.invariant-loop-line
invariant-loop-line l = record {
  records : l.records + length (whole_lines l.left) ≡ length (whole_lines l.text);
  payloads : l.payloads + begun (codes "01") (whole_lines l.left) ≡ begun (codes "01") (whole_lines l.text);
  agent : l.agent + begun (codes "40") (whole_lines l.left) ≡ begun (codes "40") (whole_lines l.text);
  within : l.records + length l.left ≤ length l.text;
  few_payloads : l.payloads ≤ l.records;
  few_agent : l.agent ≤ l.records;
}

abbrev pub decreases-loop-line : goal.decreases-loop-line
decreases-loop-line l = length l.left
