use Rattle.sshc_agent_shared.proofs.LastingSteps.{takes_locked, takes_signed}
use Rattle.sshc_agent_shared.proofs.lasting.LastingState.take.Goals as goal

pub returns-clause-locked : goal.returns-clause-locked
returns-clause-locked g c = takes_locked _ _ _ c.args.self.now c.make_room-seam.new.self c.call.new.self c.args.input _ c.make_room-seam.result c.call.result c.make_room-seam.ensures c.call.ensures.called

pub returns-clause-signed : goal.returns-clause-signed
returns-clause-signed g c = takes_signed _ _ _ c.args.self.now c.make_room-seam.new.self c.call.new.self c.args.input _ c.make_room-seam.result c.call.result c.make_room-seam.ensures c.call.ensures.called
