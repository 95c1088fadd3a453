use Rattle.std.proofs.Common.{◌≡◌, ◌+◌, length, sum_by}
use Rattle.sshc_agent_shared.proofs.closing.gather.Given as goal

abbrev pub invariant-loop-seat : goal.invariant-loop-seat
invariant-loop-seat g l = record {
  parts : l.spare.parts + length l.seats.items ≡ l.initial.spare.parts + length l.initial.seats.items;
  amount : l.spare.amount + sum_by (λ p. length p.calls) l.seats.items ≡ l.initial.spare.amount + sum_by (λ p. length p.calls) l.initial.seats.items;
}

abbrev pub decreases-loop-seat : goal.decreases-loop-seat
decreases-loop-seat g l = goal.left-loop-seat g l
