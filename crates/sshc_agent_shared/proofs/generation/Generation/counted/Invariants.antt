use Rattle.std.proofs.Common.{◌≤◌, ◌+◌, ◌<◌, vec_len}
use Rattle.sshc_agent_shared.proofs.generation.Generation.counted.Given as goal

abbrev pub invariant-loop-seat : goal.invariant-loop-seat
invariant-loop-seat g l = record {
  came : vec_len l.initial.seats ≤ l.spare.parts + vec_len l.seats;
  whole : vec_len l.seats < vec_len l.initial.seats → l.spare.parts ≤ 67108864;
}

abbrev pub decreases-loop-seat : goal.decreases-loop-seat
decreases-loop-seat g l = goal.left-loop-seat g l
