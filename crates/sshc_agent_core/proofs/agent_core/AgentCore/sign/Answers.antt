use Rattle.sshc_agent_core.proofs.Telling.{answered}
use Rattle.sshc_agent_core.proofs.agent_core.AgentCore.sign.Goals as goal

pub returns : goal.returns
returns c = record { row = answered c.args.conn c.args.self.now c.answer.new.self c.args.rest.now c.new-c.result _ _ _ _ _ _ c.new-c.ensures c.in-Ok.ensures c.in-Ok-u32.ensures c.answer.ensures.row }
