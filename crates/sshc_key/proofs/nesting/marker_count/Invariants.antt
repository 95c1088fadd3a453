use Rattle.std.proofs.Common.{◌≡◌, ◌+◌, ◌≤◌, length}
use Rattle.sshc_key.specs.Nesting.{markers}
use Rattle.sshc_key.proofs.nesting.marker_count.Given as goal

abbrev pub invariant-loop-left : goal.invariant-loop-left
invariant-loop-left l = record { counted : l.count + markers l.left ≡ markers l.blob; few : l.count + length l.left ≤ length l.blob }

abbrev pub decreases-loop-left : goal.decreases-loop-left
decreases-loop-left l = length l.left
