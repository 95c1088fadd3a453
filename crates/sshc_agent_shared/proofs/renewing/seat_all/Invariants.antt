use Rattle.std.proofs.Common.{◌≡◌, ◌+◌, ◌≤◌, length, map, take, vec_len, vec_capacity}
use Rattle.sshc_agent_shared.specs.Kept.{new_seat}
use Rattle.sshc_agent_shared.proofs.renewing.seat_all.Given as goal

abbrev pub invariant-loop-conn : goal.invariant-loop-conn
invariant-loop-conn g l = record {
  seats : l.seats.items ≡ map new_seat (take l.conn-index l.conns);
  len : vec_len l.seats ≡ l.conn-index;
  room : length l.conns ≤ vec_capacity l.seats;
  parts : l.spare.parts + l.conn-index ≡ l.initial.spare.parts;
  spare : l.spare.amount ≡ 0;
}
