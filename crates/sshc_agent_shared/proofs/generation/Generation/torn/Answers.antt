use Rattle.std.proofs.Common.{◌≤◌, length, arith}
use Rattle.std.proofs.lemmas.List.{take_all}
use Rattle.sshc_agent_shared.proofs.Histories.{count_at_most}
use Rattle.sshc_agent_shared.proofs.Keeping.{journal_short}
use Rattle.sshc_agent_shared.proofs.generation.Generation.torn.Goals as goal

pub first_tear-requires : goal.first_tear-requires
first_tear-requires g c =
    let short = journal_short _ _ _ _ _ _ _ _ _ _ c.self.invariant in
    rw (c.in_ok-groups.ensures c.seat.inside.conn, c.as_slice.ensures.value) (omega (arith, short, count_at_most c.seat.inside.conn c.self.inside.journal.items))

pub returns : goal.returns
returns g c =
    let len : length c.args.seats.now ≤ c.loop-seat.seat-index = omega arith in
    rw (← c.self.view_is) (rw (take_all c.loop-seat.seat-index c.args.seats.now len) at c.loop-seat.invariant)
