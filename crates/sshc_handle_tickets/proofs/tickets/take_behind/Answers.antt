use Rattle.sshc_handle_tickets.proofs.Closing.{left_by}
use Rattle.sshc_handle_tickets.proofs.tickets.take_behind.Goals as goal

pub returns-in-Some-clause-closing : goal.returns-in-Some-clause-closing
returns-in-Some-clause-closing c = left_by _ _ _ c.take_of_ticket.ensures.rest

pub returns-in-None-clause-closing : goal.returns-in-None-clause-closing
returns-in-None-clause-closing c = left_by _ _ _ c.take_of_ticket.ensures.rest
