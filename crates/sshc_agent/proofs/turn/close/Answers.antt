use Rattle.sshc_agent.proofs.Quiet.{told_close}
use Rattle.sshc_agent.proofs.Signed.{caused_once, signs_once}
use Rattle.sshc_agent.proofs.Ticking.{ticked}
use Rattle.sshc_agent.proofs.turn.close.Goals as goal

pub returns-clause-closes : goal.returns-clause-closes
returns-clause-closes g c = told_close _ _ _ _ c.call-seat.result.1 c.call-seat.ensures.tells c.call-seat.ensures.refused

pub returns-clause-tick : goal.returns-clause-tick
returns-clause-tick g c = ticked _ _ _ _ _ _ _ c.call-seat.result.1 c.now-now.ensures.told c.call-seat.ensures.tells c.call-seat.ensures.refused

pub returns-clause-signs : goal.returns-clause-signs
returns-clause-signs g c =
    signs_once _ _ _ _ _ _ c.call-seat.result.1 c.call-seat.ensures.tells c.call-seat.ensures.asked c.call-seat.ensures.refused c.call-seat.ensures.unasked

pub returns-clause-caused : goal.returns-clause-caused
returns-clause-caused g c = caused_once _ _ _ _ _ _ _ c.call-seat.result.1 c.call-seat.ensures.tells c.call-seat.ensures.cause c.call-seat.ensures.later c.call-seat.ensures.refused
