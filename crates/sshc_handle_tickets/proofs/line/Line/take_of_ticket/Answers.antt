use Rattle.std.proofs.Common.{sym, ◌∙◌}
use Rattle.std.specs.Ordering.{nat_cmp}
use Rattle.std.specs.BTreeMap.{is_at}
use Rattle.std.specs.Map.{values_of}
use Rattle.sshc_handle_tickets.specs.Lines.{has_number}
use Rattle.sshc_handle_tickets.proofs.LineLemmas.{below_taken, first_cut, first_found, none_first, none_rest, one_less, without_fewer}
use Rattle.sshc_handle_tickets.proofs.line.Line.take_of_ticket.Goals as goal

pub invariant_of-self : goal.invariant_of-self
invariant_of-self g c = rw c.take.ensures.rest (below_taken c.self.inside.next (is_at (nat_cmp c.in-Some.place)) c.self.inside.indexed c.self.invariant)

pub returns-in-Some-clause-taken : goal.returns-in-Some-clause-taken
returns-in-Some-clause-taken g c = rw (← c.self.view_is) (c.take.ensures.taken ∙ sym (first_found (has_number g.X.Numbered.ticket c.args.number) c.self.inside.indexed c.in-Some.place c.in-Some.ensures.sorted c.in-Some.ensures.found))

pub returns-in-Some-clause-rest : goal.returns-in-Some-clause-rest
returns-in-Some-clause-rest g c = rw (c.take.ensures.rest, ← c.self.view_is) (sym (first_cut (has_number g.X.Numbered.ticket c.args.number) c.self.inside.indexed c.in-Some.place c.in-Some.ensures.sorted c.in-Some.ensures.found))

pub returns-in-Some-clause-fewer : goal.returns-in-Some-clause-fewer
returns-in-Some-clause-fewer g c =
    rw (c.take.ensures.rest, ← c.self.view_is, sym (first_cut (has_number g.X.Numbered.ticket c.args.number) c.self.inside.indexed c.in-Some.place c.in-Some.ensures.sorted c.in-Some.ensures.found)) (without_fewer (has_number g.X.Numbered.ticket c.args.number) (values_of c.self.inside.indexed))

pub returns-in-Some-clause-one : goal.returns-in-Some-clause-one
returns-in-Some-clause-one g c =
    rw (c.take.ensures.rest, ← c.self.view_is, sym (first_cut (has_number g.X.Numbered.ticket c.args.number) c.self.inside.indexed c.in-Some.place c.in-Some.ensures.sorted c.in-Some.ensures.found))
    (one_less (has_number g.X.Numbered.ticket c.args.number) (values_of c.self.inside.indexed) c.take.result (c.take.ensures.taken ∙ sym (first_found (has_number g.X.Numbered.ticket c.args.number) c.self.inside.indexed c.in-Some.place c.in-Some.ensures.sorted c.in-Some.ensures.found)))

pub returns-in-None-clause-taken : goal.returns-in-None-clause-taken
returns-in-None-clause-taken g c = rw (← c.self.view_is) (sym (none_first (has_number g.X.Numbered.ticket c.args.number) c.self.inside.indexed c.in-None.ensures.sorted c.in-None.ensures.none))

pub returns-in-None-clause-rest : goal.returns-in-None-clause-rest
returns-in-None-clause-rest g c = rw (← c.self.view_is) (sym (none_rest (has_number g.X.Numbered.ticket c.args.number) c.self.inside.indexed c.in-None.ensures.sorted c.in-None.ensures.none))
