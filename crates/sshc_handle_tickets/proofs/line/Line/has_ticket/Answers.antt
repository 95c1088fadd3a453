use Rattle.std.proofs.Common.{◌∙◌}
use Rattle.sshc_handle_tickets.specs.Lines.{has_number}
use Rattle.sshc_handle_tickets.proofs.LineLemmas.{any_by}
use Rattle.sshc_handle_tickets.proofs.line.Line.has_ticket.Goals as goal

pub returns : goal.returns
returns g c = rw (← c.self.view_is) (c.is_some.ensures ∙ any_by (has_number g.X.Numbered.ticket c.args.number) c.self.inside.indexed c.first_of_ticket.result c.first_of_ticket.ensures.sorted c.first_of_ticket.ensures.found c.first_of_ticket.ensures.none)
