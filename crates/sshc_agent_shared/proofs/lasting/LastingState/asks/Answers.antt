use Rattle.sshc_agent_shared.proofs.ApartLemmas.{lasting_asked}
use Rattle.sshc_agent_shared.proofs.lasting.LastingState.asks.Goals as goal

pub returns-clause-seen : goal.returns-clause-seen
returns-clause-seen g c = lasting_asked _ _ _ _ _ _ _ _ c.asks.result c.is_as_named.ensures.asks c.self.invariant.0 c.is_legal.ensures c.asks.ensures
