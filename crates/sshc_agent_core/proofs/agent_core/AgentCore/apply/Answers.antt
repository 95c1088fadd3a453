use Rattle.sshc_agent_core.specs.StepLaws.{step_locked, step_others, step_refused}
use Rattle.sshc_agent_core.proofs.Short.{step_short}
use Rattle.sshc_agent_core.proofs.Telling.{refused_told, short_told}
use Rattle.sshc_agent_core.proofs.agent_core.AgentCore.apply.Goals as goal

pub returns-clause-locked : goal.returns-clause-locked
returns-clause-locked c = λ p is. step_locked p _ _ _ _ _ _ _ c.row.ensures.row is

pub returns-clause-cause : goal.returns-clause-cause
returns-clause-cause c = λ closed. refused_told _ _ (step_refused _ _ _ _ _ _ _ c.row.ensures.row closed)

pub returns-clause-short : goal.returns-clause-short
returns-clause-short c = λ short. step_short _ _ _ _ _ _ _ c.row.ensures.row c.is_listable.ensures (short_told _ _ short)

pub returns-clause-others : goal.returns-clause-others
returns-clause-others c = step_others _ _ _ _ _ _ _ c.row.ensures.row
