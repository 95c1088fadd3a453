use Rattle.std.proofs.Common.{ap, ◌∙◌}
use Rattle.sshc_agent_core.specs.LocksHoldLaws.{locks_hold}
use Rattle.sshc_agent_core.specs.SignedEntriesLaws.{signatures_permitted}
use Rattle.sshc_agent_core.specs.StepLaws.{entries_told}
use Rattle.sshc_agent_shared.specs.Kept.{SharedState}
use Rattle.sshc_agent_shared.proofs.Seams.{accounts_first}
use Rattle.sshc_agent_shared.proofs.state.AgentState.close.Goals as goal

pub returns-in-Ok-clause-accounts : goal.returns-in-Ok-clause-accounts
returns-in-Ok-clause-accounts g c = accounts_first _ _ _ _ _ _ _ c.self.invariant.0 (ap (λ (s : SharedState). s.asks) c.self.view_is ∙ c.is_as_named.ensures.asks) c.in-Ok.ensures.accounts

pub returns-in-Ok-clause-locks : goal.returns-in-Ok-clause-locks
returns-in-Ok-clause-locks g c = locks_hold _

pub returns-in-Ok-clause-signed : goal.returns-in-Ok-clause-signed
returns-in-Ok-clause-signed g c = signatures_permitted _

pub returns-in-Ok-clause-told : goal.returns-in-Ok-clause-told
returns-in-Ok-clause-told g c = entries_told _ _ _ c.in-Ok.ensures.accounts.leads
