use Rattle.std.proofs.Common.{ap, ◌∙◌}
use Rattle.sshc_agent_core.specs.Connections.{standing_of}
use Rattle.sshc_agent_core.specs.StepLaws.{without_others}
use Rattle.sshc_agent_core.proofs.agent_core.AgentCore.forget.Goals as goal

pub returns-clause-others : goal.returns-clause-others
returns-clause-others c other apart = rw (← c.self.view_is) (ap (λ conns. standing_of conns other) c.forget.ensures ∙ without_others c.self.inside.conns other c.args.conn apart)
