-- The numbers of a record: of the ticket that it answers, and of the channel on which it happened.
use Rattle.std.specs.Prelude.{ℕ, Option, Some, None}
use Rattle.sshc_wire.specs.declared.record.Record.{Record}
use Rattle.sshc_wire.specs.declared.record.Record.TheVariants.{Auth, Channel, Resolved}
use Rattle.sshc_wire.specs.declared.ticket.Ticket.{Ticket}

-- the number of the ticket that a record names
abbrev pub ticket_of : Record → Option ℕ
ticket_of (Resolved ticket resolution) = Some ticket.0
ticket_of (Auth ticket asked) = Some ticket.0
ticket_of output = None

-- the number of the channel on which something happened
abbrev pub channel_of : Record → Option ℕ
channel_of (Channel id happened) = Some id.0
channel_of output = None

abbrev pub own_number : Ticket → Option ℕ
own_number ticket = Some ticket.0

abbrev pub no_number : Ticket → Option ℕ
no_number ticket = None
