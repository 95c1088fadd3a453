use Rattle.std.proofs.Common.{rules, sym, ◌∙◌}
use Rattle.std.proofs.lemmas.Fn.{filter_same}
use Rattle.sshc_handle_tickets.proofs.Closing.{marked_cut, none_cut}
use Rattle.sshc_handle_tickets.proofs.tickets.forget.Goals as goal

pub returns-then-has-clause-rest : goal.returns-then-has-clause-rest
returns-then-has-clause-rest c = filter_same _ _ _ (λ x b f' k. search rules) _ _ c.retain.ensures.filtered

pub returns-then-has-clause-marked : goal.returns-then-has-clause-marked
returns-then-has-clause-marked c = marked_cut c.args.marks.now c.clear.new.self _ _ c.args.number c.requires.marked c.clear.ensures.cleared (filter_same _ _ _ (λ x b f' k. search rules) _ _ c.retain.ensures.filtered)

pub returns-else-has-clause-rest : goal.returns-else-has-clause-rest
returns-else-has-clause-rest c = none_cut c.args.number c.args.closed.now.items (sym (c.requires.marked c.args.number) ∙ sym c.has.ensures ∙ c.if-has.false)
