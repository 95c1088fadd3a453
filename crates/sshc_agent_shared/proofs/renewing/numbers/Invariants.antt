use Rattle.std.proofs.Common.{◌≡◌, take}
use Rattle.sshc_agent_shared.specs.Generations.{conns_of}
use Rattle.sshc_agent_shared.proofs.renewing.numbers.Given as goal

abbrev pub invariant-loop-seat : goal.invariant-loop-seat
invariant-loop-seat g l = l.numbers.items ≡ conns_of (take l.seat-index l.seats)
