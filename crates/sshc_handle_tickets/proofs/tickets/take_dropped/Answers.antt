use Rattle.std.proofs.Common.{ap, map, ◌∙◌}
use Rattle.sshc_handle_tickets.specs.Tickets.{dropped}
use Rattle.sshc_handle_tickets.proofs.Over.{without_dropped}
use Rattle.sshc_handle_tickets.proofs.tickets.take_dropped.Goals as goal

pub returns-in-Some-clause-rest : goal.returns-in-Some-clause-rest
returns-in-Some-clause-rest c = ap (map dropped) c.take_of_ticket.ensures.rest ∙ without_dropped c.args.number c.args.dropped_tickets.now

pub returns-in-None-clause-rest : goal.returns-in-None-clause-rest
returns-in-None-clause-rest c = ap (map dropped) c.take_of_ticket.ensures.rest ∙ without_dropped c.args.number c.args.dropped_tickets.now
