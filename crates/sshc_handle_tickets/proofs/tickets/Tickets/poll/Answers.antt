use Rattle.sshc_handle_tickets.proofs.Closing.{kept_left}
use Rattle.sshc_handle_tickets.proofs.tickets.Tickets.poll.Goals as goal

pub invariant_of-self-else-self : goal.invariant_of-self-else-self
invariant_of-self-else-self c = kept_left _ _ _ _ _ _ c.self.invariant c.take_of_ticket.ensures.rest c.take_of_ticket.ensures.fewer
