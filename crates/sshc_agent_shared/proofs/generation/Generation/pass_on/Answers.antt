use Rattle.std.proofs.Common.{map, ap, ◌∙◌}
use Rattle.sshc_agent_shared.specs.Kept.{SeatState, new_seat}
use Rattle.sshc_agent_shared.proofs.Parting.{map_twice}
use Rattle.sshc_agent_shared.proofs.generation.Generation.pass_on.Goals as goal

pub returns-clause-seats : goal.returns-clause-seats
returns-clause-seats g c = c.seat_all.ensures.seats ∙ (ap (map new_seat) (c.as_slice.ensures.value ∙ c.requires.staying) ∙ map_twice new_seat (λ (s : SeatState). s.conn) c.args.live.now.items)
