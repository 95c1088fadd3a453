-- The calls of the table, each as the table after it and the packets that it writes (RFC 4254, section 5).
-- A call acts on the channel that it names; a flush acts on each. The code looks a channel up by its place.
pub mod Sending
pub mod Opens
pub mod Windows
pub mod Ends
use Rattle.std.specs.Prelude.{◌≡◌, ℕ, Bool, true, false, List, [], ◌∷◌, ◌++◌, ◌||◌, length, not, ◌==◌, Option, Some, None, is_some, Result, Ok, Err, if◌then◌else◌}
use Rattle.sshc_wire.specs.declared.error.NoMemory.{NoMemory}
use Rattle.sshc_wire.specs.declared.ticket.Ticket.{Ticket}
use Rattle.sshc_wire.specs.declared.record.Record.{Record}
use Rattle.sshc_wire.specs.declared.record.Record.TheVariants.{Payload}
use Rattle.sshc_wire.specs.Outgoing.{Outgoing, shown}
use Rattle.sshc_mux.specs.declared.chunk.Stream.{Stream}
use Rattle.sshc_mux.specs.declared.chunk.Stream.TheVariants as Streams
use Rattle.sshc_mux.specs.ChannelState.{Head, ChannelFlow, ChannelState, TableState, channel_of, with_channel, without}
use Rattle.sshc_mux.specs.Packets.{Packet, packet_text, payloads}
use Rattle.sshc_mux.specs.ChannelTable.Sending.{FlowTurn, flushed}
use Rattle.sshc_mux.specs.ChannelTable.Opens.{awaited_by, accepted, confirmed, is_reserved}
use Rattle.sshc_mux.specs.ChannelTable.Windows.{grant_flow, used, returned, adjust_packets, adjusts}
use Rattle.sshc_mux.specs.ChannelTable.Ends.{takes, data_flow, eof_flow, close_flow, answer_of, is_sent}

-- a packet, with the number of the channel that wrote it and the peer's number
pub record ChannelPacket : Type 0 where
  pub number : ℕ
  pub recipient : ℕ
  pub packet : Packet

-- the table after a call, and what the call wrote
pub record Effect : Type 0 where
  pub table : TableState
  pub output : List ChannelPacket

abbrev pub said_by : ChannelState → List Packet → List ChannelPacket
said_by c [] = []
said_by c (p ∷ ps) = record { number = c.head.number; recipient = c.head.recipient; packet = p } ∷ said_by c ps

abbrev pub records_of : List ChannelPacket → List Record
records_of [] = []
records_of (s ∷ output) = Payload (packet_text s.recipient s.packet) ∷ records_of output

-- a channel after a call, and the packets that it wrote
pub record Turn : Type 0 where
  pub channel : ChannelState
  pub packets : List Packet

-- the channel's flow takes a turn, and all else is unchanged
abbrev pub in_flow : (Head → ChannelFlow → FlowTurn) → ChannelState → Turn
in_flow turn c = record {
  channel = record c { flow = (turn c.head c.flow).flow };
  packets = (turn c.head c.flow).packets;
}

abbrev pub data_turn : Stream → List ℕ → Bool → ChannelState → Turn
data_turn stream bytes exchanging = in_flow (data_flow stream bytes exchanging)

abbrev pub eof_turn : ChannelState → Turn
eof_turn = in_flow eof_flow

abbrev pub close_turn : ChannelState → Turn
close_turn = in_flow close_flow

abbrev pub grant_turn : ℕ → Bool → ChannelState → Turn
grant_turn amount exchanging = in_flow (grant_flow amount exchanging)

abbrev pub flush_turn : ChannelState → Turn
flush_turn = in_flow (flushed false)

-- our window falls by bytes of the peer's, and a low one is brought back to the target
abbrev pub received_turn : ℕ → ℕ → ChannelState → Turn
received_turn len target c = record {
  channel = record c { own_window = used len target c };
  packets = adjust_packets (returned len target c);
}

-- nothing happens
abbrev pub unmoved : TableState → Effect
unmoved t = record { table = t; output = [] }

-- the channel of this number takes its turn
abbrev pub turned : ℕ → Option ChannelState → (ChannelState → Turn) → TableState → Effect
turned n None turn t = unmoved t
turned n (Some c) turn t = record {
  table = record t { channels = with_channel n (turn c).channel t.channels };
  output = said_by c (turn c).packets;
}

abbrev pub turn_at : ℕ → (ChannelState → Turn) → TableState → Effect
turn_at n turn t = turned n (channel_of n t.channels) turn t

-- each channel's turn, in the order of their making
abbrev pub all_flushed : List ChannelState → List ChannelState
all_flushed [] = []
all_flushed (c ∷ cs) = (flush_turn c).channel ∷ all_flushed cs

abbrev pub all_said : List ChannelState → List ChannelPacket
all_said [] = []
all_said (c ∷ cs) = said_by c (flush_turn c).packets ++ all_said cs

abbrev pub flush : TableState → Effect
flush t = record { table = record t { channels = all_flushed t.channels }; output = all_said t.channels }

-- the channel of this number is removed with its last packets, if it may be
abbrev pub removed : ℕ → TableState → TableState
removed n t = record t { channels = without n t.channels }

abbrev pub taken_away :
    ℕ → Option ChannelState → (ChannelState → Bool) → (ChannelState → List Packet) → TableState → Effect
taken_away n None goes last t = unmoved t
taken_away n (Some c) goes last t =
    if goes c then record { table = removed n t; output = said_by c (last c) } else unmoved t

abbrev pub take_at : ℕ → (ChannelState → Bool) → (ChannelState → List Packet) → TableState → Effect
take_at n goes last t = taken_away n (channel_of n t.channels) goes last t

-- nothing is written
abbrev pub no_packets_of : ChannelState → List Packet
no_packets_of c = []

-- an open of the peer's that waits is established or removed
abbrev pub accept_turn : ChannelState → Turn
accept_turn c = record { channel = if is_reserved c then accepted c else c; packets = [] }

abbrev pub settle : ℕ → Bool → TableState → Effect
settle n accept t = if accept then turn_at n accept_turn t else take_at n is_reserved no_packets_of t

-- an open of ours that waits is established or removed
abbrev pub confirm_turn : ℕ → ℕ → ℕ → ChannelState → Turn
confirm_turn recipient window packet c = record {
  channel = if is_some (awaited_by (Some c)) then confirmed recipient window packet c else c;
  packets = [];
}

abbrev pub is_awaited : ChannelState → Bool
is_awaited c = is_some (awaited_by (Some c))

-- the peer's close removes an established channel with what waits on it
abbrev pub is_up : ChannelState → Bool
is_up c = c.head.established

abbrev pub last_packets : ChannelState → List Packet
last_packets c = answer_of c.flow

abbrev pub close_peer : ℕ → TableState → Effect
close_peer n t = take_at n is_up last_packets t

abbrev pub established_in : Option ChannelState → Bool
established_in None = false
established_in (Some c) = c.head.established

abbrev pub is_established : ℕ → TableState → Bool
is_established n t = established_in (channel_of n t.channels)

-- bytes wait on the channel
abbrev pub waits : ChannelState → Bool
waits c = not (length c.flow.pending == 0)

abbrev pub waits_in : Option ChannelState → Bool
waits_in None = false
waits_in (Some c) = waits c

abbrev pub any_waits : List ChannelState → Bool
any_waits [] = false
any_waits (c ∷ cs) = waits c || any_waits cs

abbrev pub window_in : Option ChannelState → ℕ
window_in None = 0
window_in (Some c) = c.flow.window

abbrev pub recipient_in : Option ChannelState → Option ℕ
recipient_in None = None
recipient_in (Some c) = if c.head.established then Some c.head.recipient else None

abbrev pub close_sent_in : Option ChannelState → Bool
close_sent_in None = false
close_sent_in (Some c) = is_sent c.flow.close

-- bytes are taken for the channel of this number
abbrev pub takes_in : Option ChannelState → Bool
takes_in None = false
takes_in (Some c) = takes c.flow

abbrev pub takes_at : ℕ → TableState → Bool
takes_at n t = takes_in (channel_of n t.channels)

-- the window after a grant
abbrev pub granted_in : Option ChannelState → ℕ → Bool → Option ℕ
granted_in None amount exchanging = None
granted_in (Some c) amount exchanging =
    if c.head.established then Some (grant_turn amount exchanging c).channel.flow.window else None

abbrev pub granted_at : ℕ → ℕ → Bool → TableState → Option ℕ
granted_at n amount exchanging t = granted_in (channel_of n t.channels) amount exchanging

-- bytes of the peer's cause an adjust packet
abbrev pub adjusted_in : Option ChannelState → ℕ → ℕ → Bool
adjusted_in None len target = false
adjusted_in (Some c) len target = adjusts len target c

abbrev pub adjusted_at : ℕ → ℕ → ℕ → TableState → Bool
adjusted_at n len target t = adjusted_in (channel_of n t.channels) len target

-- the effect happened, or memory ran out and nothing changed
abbrev pub CameAbout : {A : Type 0} → Effect → TableState → TableState → Outgoing → Outgoing → Result A NoMemory → Type 0
CameAbout effect before after old new (Ok x) =
    (after ≡ effect.table)
    × (new.records ≡ old.records ++ shown old.muted (records_of effect.output))
    × (new.muted ≡ old.muted)
CameAbout effect before after old new (Err e) = (after ≡ before) × (new.records ≡ old.records) × (new.muted ≡ old.muted)

-- the same for one channel
abbrev pub Turned : {A : Type 0} → Turn → ChannelState → ChannelState → Outgoing → Outgoing → Result A NoMemory → Type 0
Turned turn before after old new (Ok x) =
    (after ≡ turn.channel)
    × (new.records ≡ old.records ++ shown old.muted (payloads before.head.recipient turn.packets))
    × (new.muted ≡ old.muted)
Turned turn before after old new (Err e) = (after ≡ before) × (new.records ≡ old.records) × (new.muted ≡ old.muted)
