use Rattle.sshc_agent_core.proofs.agent_core.AgentCore.is_listable.Goals as goal

pub returns : goal.returns
returns c = rw (← c.self.view_is) c.self.invariant
