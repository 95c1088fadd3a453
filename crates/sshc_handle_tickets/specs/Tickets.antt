-- The tickets that are open, and the records that are held until someone asks for them.
unfoldable pub use Rattle.sshc_handle_tickets.specs.Lines.{first_of, without_first}
pub use Rattle.sshc_handle_tickets.specs.Lines.{is_number}
pub use Rattle.sshc_handle_tickets.specs.Numbers.{channel_of, ticket_of}
use Rattle.std.specs.Prelude.{ℕ, zero, suc, ◌+◌, ◌-◌, ◌^◌, Bool, true, false, nat_eq, if◌then◌else◌, not, ◌||◌, List, [], ◌∷◌, ◌++◌, Option, Some, None, is_some, filter, map}
use Rattle.std.specs.List.{list_any}
use Rattle.sshc_wire.specs.declared.record.Record.{Record}
use Rattle.sshc_wire.specs.declared.record.Record.TheVariants.{Channel, Resolved, ServerOpened}
use Rattle.sshc_wire.specs.declared.channel_id.ChannelId.{ChannelId}
use Rattle.sshc_wire.specs.declared.channel_record.ChannelRecord.TheVariants.{Close, Open}
use Rattle.sshc_wire.specs.declared.resolution.Resolution.TheVariants.{Dropped}
use Rattle.sshc_wire.specs.declared.ticket.Ticket.{Ticket}

pub record TicketState : Type 0 where
  -- the tickets whose answer is due, the oldest first
  pub due : List Ticket
  -- the records that nobody has taken yet, the oldest first
  pub held : List Record
  -- the channels whose close was taken, until one of their number opens again
  pub closed : List ChannelId
  -- the number of the ticket that was opened last
  pub last : ℕ

-- ---- which records are a ticket's

abbrev pub is_of : ℕ → Record → Bool
is_of number output = is_number number (ticket_of output)

abbrev pub is_on : ℕ → Record → Bool
is_on number output = is_number number (channel_of output)

-- whether the record is of what happened on some channel
abbrev pub is_on_some : Record → Bool
is_on_some output = is_some (channel_of output)

-- the channel on which it happened
abbrev pub channel_in : Option Record → Option ChannelId
channel_in (Some (Channel id happened)) = Some id
channel_in output = None

abbrev pub is_ticket : ℕ → Ticket → Bool
is_ticket number ticket = nat_eq ticket.0 number

abbrev pub is_channel : ℕ → ChannelId → Bool
is_channel number id = nat_eq id.0 number

-- ---- the next ticket

-- open, or named by a record that is held
abbrev pub is_taken : TicketState → ℕ → Bool
is_taken s number = list_any (is_ticket number) s.due || list_any (is_of number) s.held

-- the number after this one; 1 after the last
abbrev pub number_after : ℕ → ℕ
number_after number = if nat_eq number (2 ^ 32 - 1) then 1 else number + 1

-- the first number after this one that isn't taken, if there is one among so many
unfoldable pub free_within : ℕ → TicketState → ℕ → Option ℕ
free_within zero s number = None
free_within (suc tries) s number = if is_taken s (number_after number) then free_within tries s (number_after number) else Some (number_after number)

-- ---- records that are held

-- the tickets whose answer is due after a record: an answer settles its own
abbrev pub due_behind : Record → List Ticket → List Ticket
due_behind (Resolved ticket resolution) due = without_first (is_ticket ticket.0) due
due_behind output due = due

-- the number of the channel that a record opens
abbrev pub opened_by : Record → Option ℕ
opened_by (Channel id (Open max_packet_size window_size)) = Some id.0
opened_by (ServerOpened id kind) = Some id.0
opened_by output = None

-- the channels that are still closed after one opens
abbrev pub closed_behind : Option ℕ → List ChannelId → List ChannelId
closed_behind None closed = closed
closed_behind (Some number) closed = filter (λ (id : ChannelId). not (is_channel number id)) closed

-- the channel is closed with the record of its close
abbrev pub closed_with : Option Record → List ChannelId → List ChannelId
closed_with (Some (Channel id Close)) closed = closed ++ id ∷ []
closed_with output closed = closed

abbrev pub dropped : Ticket → Record
dropped ticket = Resolved ticket Dropped

-- ---- how tickets are kept: once the session is over the open ones are those that were dropped

-- the tickets that are open
abbrev pub left_due : Bool → List Ticket → List Ticket
left_due true due = []
left_due false due = due

-- the records that are held, with those of dropped tickets
abbrev pub held_at : Bool → List Record → List Ticket → List Record
held_at true held due = held ++ map dropped due
held_at false held due = held

-- the number of the ticket that a record answers
abbrev pub answered : Record → Option ℕ
answered (Resolved ticket resolution) = Some ticket.0
answered output = None
