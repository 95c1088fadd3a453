use Rattle.std.proofs.Common.{List, ap, subst, sym, ◌∙◌}
use Rattle.sshc_agent_core.specs.declared.entry.Entry.{Entry}
use Rattle.sshc_agent_shared.specs.Kept.{GenerationState, IsHistoryFrom}
use Rattle.sshc_agent_shared.proofs.generation.Generation.settle.Goals as goal

pub returns-clause-leads : goal.returns-clause-leads
returns-clause-leads g c =
    let same = c.requires.whole ∙ ap (λ (s : GenerationState). s.of.journal) (sym c.self.view_is) in
    rw (← c.self.view_is) (subst (λ (j : List Entry). IsHistoryFrom c.self.inside.start.value j c.self.inside.agent) (sym same) c.self.invariant.history)
