use Rattle.sshc_agent_shared.proofs.Seams.{lasts_on}
use Rattle.sshc_agent_shared.proofs.lasting.LastingState.renew.Goals as goal

pub invariant_of-self : goal.invariant_of-self
invariant_of-self g c = lasts_on c.renew.result _ _ _ _ _ _ c.self.invariant c.is_legal.ensures c.renew.ensures.next c.renew.ensures.seats c.renew.ensures.same
