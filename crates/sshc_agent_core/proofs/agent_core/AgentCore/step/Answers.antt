use Rattle.std.proofs.Common.{◌++◌, sym, ap, subst, ◌∙◌}
use Rattle.sshc_agent_core.specs.StepLaws.{step_locked, step_permits}
use Rattle.sshc_agent_core.proofs.Short.{step_short}
use Rattle.sshc_agent_core.proofs.Telling.{gained_is, refused_by, stepped}
use Rattle.sshc_agent_core.specs.SignerLists.{AreShort}
use Rattle.sshc_agent_core.proofs.agent_core.AgentCore.step.Goals as goal

pub returns-clause-row : goal.returns-clause-row
returns-clause-row g c = stepped _ _ _ _ _ _ _ _ _ _ _ c.ask-answer.ensures.calls c.told_by.ensures c.apply.ensures.row

pub returns-clause-gained : goal.returns-clause-gained
returns-clause-gained g c = let gained = c.ask-answer.ensures.calls in gained ∙ ap (◌++◌ _) (sym (gained_is _ _ _ gained))

pub returns-clause-locked : goal.returns-clause-locked
returns-clause-locked g c = λ p is. step_locked p _ _ _ _ _ _ _ (stepped _ _ _ _ _ _ _ _ _ _ _ c.ask-answer.ensures.calls c.told_by.ensures c.apply.ensures.row) is

pub returns-clause-signed : goal.returns-clause-signed
returns-clause-signed g c = λ call calls is. step_permits _ _ _ _ _ _ _ call calls (stepped _ _ _ _ _ _ _ _ _ _ _ c.ask-answer.ensures.calls c.told_by.ensures c.apply.ensures.row) is

pub returns-clause-short : goal.returns-clause-short
returns-clause-short g c =
    step_short _ _ _ _ _ _ _ (stepped _ _ _ _ _ _ _ _ _ _ _ c.ask-answer.ensures.calls c.told_by.ensures c.apply.ensures.row) c.is_listable.ensures
    (subst AreShort (sym (gained_is _ _ _ c.ask-answer.ensures.calls)) c.ask-answer.ensures.short)

pub returns-clause-cause : goal.returns-clause-cause
returns-clause-cause g c = λ closed. c.ask-answer.ensures.cause (refused_by _ (sym c.told_by.ensures ∙ c.apply.ensures.cause closed))

pub returns-clause-others : goal.returns-clause-others
returns-clause-others g c = c.apply.ensures.others
