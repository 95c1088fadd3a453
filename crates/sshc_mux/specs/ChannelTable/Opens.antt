-- Numbers, opens, confirmations and failures (RFC 4254, section 5.1).
-- The next number is the first that no channel has; the code tries one after the other.
use Rattle.std.specs.Prelude.{ℕ, zero, suc, ◌+◌, ◌^◌, ◌%◌, Bool, true, false, not, ◌&&◌, List, [], ◌∷◌, ◌++◌, length, Option, Some, None, ◌≡◌, ◌<◌, is_some, if◌then◌else◌}
use Rattle.sshc_wire.specs.declared.ticket.Ticket.{Ticket}
use Rattle.sshc_mux.specs.declared.channel.Opener.{Opener}
use Rattle.sshc_mux.specs.declared.channel.Opener.TheVariants.{User, Server}
use Rattle.sshc_mux.specs.declared.channel.Stage.TheVariants.{Unasked}
use Rattle.sshc_mux.specs.ChannelState.{Head, ChannelFlow, ChannelState, TableState, channel_of}

-- the next number; 0 after the last u32
abbrev pub above : ℕ → ℕ
above n = (n + 1) % 2 ^ 32

-- this number if no channel has it, else the other
abbrev pub free_or : Option ChannelState → ℕ → Option ℕ → Option ℕ
free_or None n other = Some n
free_or (Some c) n other = other

-- the first that no channel has of so many numbers, beginning with this one
abbrev pub free_from : ℕ → ℕ → List ChannelState → Option ℕ
free_from zero n cs = None
free_from (suc tries) n cs = free_or (channel_of n cs) n (free_from tries (above n) cs)

-- Trying one number more than there are channels is enough to find a free one, unless every number is taken.
unfoldable pub next_number : TableState → Option ℕ
next_number t = free_from (length t.channels + 1) (above t.last) t.channels

-- The number is the first that no channel has, counting from the last one assigned, and from 0 after the last u32.
pub record IsNext (t : TableState) (n : ℕ) : Type 0 where
  pub steps : ℕ
  pub counted : n ≡ (t.last + 1 + steps) % 2 ^ 32
  pub free : channel_of n t.channels ≡ None
  pub taken : (k : ℕ) → k < steps → is_some (channel_of ((t.last + 1 + k) % 2 ^ 32) t.channels) ≡ true

-- the next number, which no channel has
pub record IsNew (t : TableState) (n : ℕ) : Type 0 where
  pub next : next_number t ≡ Some n
  pub free : channel_of n t.channels ≡ None

-- the table with one more channel
abbrev pub made_in : ChannelState → TableState → TableState
made_in c t = record { channels = t.channels ++ c ∷ []; last = c.head.number }

-- nothing waits, and no end was asked for
abbrev pub new_flow : ℕ → ChannelFlow
new_flow window = record { window = window; pending = []; eof = Unasked; close = Unasked }

-- an open of ours, whose recipient and window are not known yet
abbrev pub opened_by_user : ℕ → ℕ → ℕ → Option Ticket → ChannelState
opened_by_user number window packet ticket = record {
  head = record { number = number; opener = User ticket; established = false; recipient = 0; packet_size = packet };
  own_window = window;
  flow = new_flow 0;
}

-- an open of the peer's, which waits to be settled
abbrev pub reserved_by_server : ℕ → ℕ → ℕ → ℕ → ℕ → ChannelState
reserved_by_server number recipient window packet own = record {
  head = record { number = number; opener = Server; established = false; recipient = recipient; packet_size = packet };
  own_window = own;
  flow = new_flow window;
}

-- the ticket of an open of ours
abbrev pub ticket_in : Opener → Option (Option Ticket)
ticket_in (User ticket) = Some ticket
ticket_in Server = None

-- the ticket of an open of ours that waits for the peer's answer
abbrev pub awaited_in : Bool → Opener → Option (Option Ticket)
awaited_in true opener = None
awaited_in false opener = ticket_in opener

abbrev pub awaited_by : Option ChannelState → Option (Option Ticket)
awaited_by None = None
awaited_by (Some c) = awaited_in c.head.established c.head.opener

abbrev pub awaited : ℕ → TableState → Option (Option Ticket)
awaited n t = awaited_by (channel_of n t.channels)

-- the peer's number, window and packet size take their places
abbrev pub confirmed_head : ℕ → ℕ → Head → Head
confirmed_head recipient packet h = record h { established = true; recipient = recipient; packet_size = packet }

abbrev pub confirmed : ℕ → ℕ → ℕ → ChannelState → ChannelState
confirmed recipient window packet c = record c {
  head = confirmed_head recipient packet c.head;
  flow = record c.flow { window = window };
}

-- an open of the peer's that waits to be settled
abbrev pub is_by_server : Opener → Bool
is_by_server (User ticket) = false
is_by_server Server = true

abbrev pub is_reserved : ChannelState → Bool
is_reserved c = not c.head.established && is_by_server c.head.opener

abbrev pub reserved_by : Option ChannelState → Bool
reserved_by None = false
reserved_by (Some c) = is_reserved c

-- the peer's number of a channel that it opened and that isn't settled yet
abbrev pub unsettled : Option ChannelState → Option ℕ
unsettled None = None
unsettled (Some c) = if is_reserved c then Some c.head.recipient else None

abbrev pub unsettled_at : ℕ → TableState → Option ℕ
unsettled_at id t = unsettled (channel_of id t.channels)

abbrev pub accepted_head : Head → Head
accepted_head h = record h { established = true }

abbrev pub accepted : ChannelState → ChannelState
accepted c = record c { head = accepted_head c.head }
