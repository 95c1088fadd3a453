use Rattle.sshc_agent.proofs.Signed.{lasting_once}
use Rattle.sshc_agent.proofs.lasting.lasting_called.Goals as goal

pub returns : goal.returns
returns g c = record { signs = lasting_once _ _ _ _ _ _ c.call_apart.result c.call_apart.ensures.tells c.call_apart.ensures.once c.call_apart.ensures.asked }
