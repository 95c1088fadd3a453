use Rattle.sshc_agent_shared.proofs.ApartLemmas.{locked_none}
use Rattle.sshc_agent_shared.proofs.lasting.LastingState.finish.Goals as goal

pub returns-in-Some-clause-locked : goal.returns-in-Some-clause-locked
returns-in-Some-clause-locked g c = locked_none _ _ _ _ _ _ c.take-in-Some.result.0 c.take-in-Some.ensures.locked
