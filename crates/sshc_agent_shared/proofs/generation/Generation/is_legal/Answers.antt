use Rattle.sshc_agent_shared.proofs.generation.Generation.is_legal.Goals as goal

pub returns : goal.returns
returns g c = rw (← c.self.view_is) c.self.invariant.history
