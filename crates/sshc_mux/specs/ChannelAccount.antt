-- The account of one life of a channel's number: what was taken to send, what was sent, what waits and what the peer
-- granted (RFC 4254, sections 5.2 and 5.3). Lists and sums over the calls; the code keeps queues and windows, and no
-- history.
use Rattle.std.specs.Prelude.{◌≡◌, ℕ, ◌+◌, ◌-◌, min, sum, ◌≤◌, ◌⊎◌, Bool, true, false, not, ◌&&◌, ◌||◌, List, [], ◌∷◌, ◌++◌, length, Option, Some, None, is_some, Result, if◌then◌else◌, ◌==◌, ◌<◌}
use Rattle.std.specs.List.{AllByRecursion}
use Rattle.sshc_wire.specs.declared.error.NoMemory.{NoMemory}
use Rattle.sshc_wire.specs.declared.ticket.Ticket.{Ticket}
use Rattle.sshc_wire.specs.Outgoing.{Outgoing}
use Rattle.sshc_mux.specs.declared.chunk.Stream.{Stream}
use Rattle.sshc_mux.specs.ChannelState.{Head, ChannelFlow, ChannelState, TableState, Waiting, channel_of}
use Rattle.sshc_mux.specs.Packets.{Packet, Piece, Eof, Close, Adjust}
use Rattle.sshc_mux.specs.ChannelTable.{Effect, CameAbout, ChannelPacket, unmoved, turn_at, take_at, no_packets_of, flush, settle, confirm_turn, is_awaited, close_peer, recipient_in, data_turn, eof_turn, close_turn, grant_turn, received_turn}
use Rattle.sshc_mux.specs.ChannelTable.Opens.{next_number, IsNext, made_in, opened_by_user, reserved_by_server, awaited_by, is_reserved, confirmed_head, accepted_head}
use Rattle.sshc_mux.specs.ChannelTable.Sending.{left_of, is_due}
use Rattle.sshc_mux.specs.ChannelTable.Windows.{held, adjust_of}
use Rattle.sshc_mux.specs.ChannelTable.Ends.{is_sent, is_unasked, takes}
use Rattle.sshc_mux.specs.Places.{numbers, Apart}

-- a call of the table; a call that runs out of memory changes nothing, and isn't counted
pub data Call : Type 0 where
  OpenUser : (window packet : ℕ) → (ticket : Option Ticket) → Call
  ReserveServer : (recipient window packet own : ℕ) → Call
  SettleServer : (id : ℕ) → (accept : Bool) → Call
  Confirm : (id recipient window packet : ℕ) → Call
  Fail : (id : ℕ) → Call
  Bytes : (id : ℕ) → (stream : Stream) → (bytes : List ℕ) → (exchanging : Bool) → Call
  AskEof : (id : ℕ) → Call
  AskClose : (id : ℕ) → Call
  PeerClose : (id : ℕ) → Call
  Grant : (id amount : ℕ) → (exchanging : Bool) → Call
  FlushAll : Call
  Received : (id len target : ℕ) → Call

-- a channel with a number; nothing if no number is free
abbrev pub opened : Option ℕ → (ℕ → ChannelState) → TableState → Effect
opened None channel t = unmoved t
opened (Some n) channel t = record { table = made_in (channel n) t; output = [] }

-- what a call does: it opens a channel, runs one channel's turn, removes one, or flushes each
abbrev pub called : Call → TableState → Effect
called (OpenUser window packet ticket) t = opened (next_number t) (λ n. opened_by_user n window packet ticket) t
called (ReserveServer recipient window packet own) t =
    opened (next_number t) (λ n. reserved_by_server n recipient window packet own) t
called (SettleServer n accept) t = settle n accept t
called (Confirm n recipient window packet) t = turn_at n (confirm_turn recipient window packet) t
called (Fail n) t = take_at n is_awaited no_packets_of t
called (Bytes n stream bytes exchanging) t = turn_at n (data_turn stream bytes exchanging) t
called (AskEof n) t = turn_at n eof_turn t
called (AskClose n) t = turn_at n close_turn t
called (PeerClose n) t = close_peer n t
called (Grant n amount exchanging) t = turn_at n (grant_turn amount exchanging) t
called FlushAll t = flush t
called (Received n len target) t = turn_at n (received_turn len target) t

-- a call has nothing to write
abbrev pub WritesNothing : Call → TableState → Type 0
WritesNothing call t = (called call t).output ≡ []

-- a call did what it does, or ran out of memory and changed nothing
abbrev pub Did : {A : Type 0} → Call → TableState → TableState → Outgoing → Outgoing → Result A NoMemory → Type 0
Did call before after old new result = CameAbout (called call before) before after old new result

-- the table after a list of calls, and all that they wrote
abbrev pub ran : List Call → TableState → Effect
ran [] t = unmoved t
ran (call ∷ calls) t = record {
  table = (ran calls (called call t).table).table;
  output = (called call t).output ++ (ran calls (called call t).table).output;
}

-- no channels, where this was the last number that was assigned
abbrev pub no_channels : ℕ → TableState
no_channels last = record { channels = []; last = last }

-- each byte with its kind and code
abbrev pub marked : Stream → List ℕ → List (Stream × ℕ)
marked stream [] = []
marked stream (b ∷ bytes) = (stream, b) ∷ marked stream bytes

-- the bytes of the calls before the first end that was asked for
abbrev pub taken : ℕ → List Call → List (Stream × ℕ)
taken n [] = []
taken n (Bytes id stream bytes exchanging ∷ calls) =
    if id == n then marked stream bytes ++ taken n calls else taken n calls
taken n (AskEof id ∷ calls) = if id == n then [] else taken n calls
taken n (AskClose id ∷ calls) = if id == n then [] else taken n calls
taken n (call ∷ calls) = taken n calls

-- the packets that the channel wrote, and the bytes in them
abbrev pub packets_by : ℕ → List ChannelPacket → List Packet
packets_by n [] = []
packets_by n (s ∷ output) = if s.number == n then s.packet ∷ packets_by n output else packets_by n output

abbrev pub bytes_in : List Packet → List (Stream × ℕ)
bytes_in [] = []
bytes_in (Piece stream bytes ∷ packets) = marked stream bytes ++ bytes_in packets
bytes_in (Eof ∷ packets) = bytes_in packets
bytes_in (Close ∷ packets) = bytes_in packets
bytes_in (Adjust amount ∷ packets) = bytes_in packets

-- the bytes that wait
abbrev pub pending : List Waiting → List (Stream × ℕ)
pending [] = []
pending (w ∷ waiting) = marked w.stream w.bytes ++ pending waiting

-- by how much our window is raised
abbrev pub amounts_in : List Packet → List ℕ
amounts_in [] = []
amounts_in (Piece stream bytes ∷ packets) = amounts_in packets
amounts_in (Eof ∷ packets) = amounts_in packets
amounts_in (Close ∷ packets) = amounts_in packets
amounts_in (Adjust amount ∷ packets) = amount ∷ amounts_in packets

-- ---- one call and one channel

-- no entry that waits is empty
abbrev pub AllFilled : List Waiting → Type 0
AllFilled [] = Unit {0}
AllFilled (w ∷ ws) = (0 < length w.bytes) × AllFilled ws

-- No entry that waits is empty, no bytes wait after EOF or close was sent, and no EOF after our close.
pub record IsOrdered (f : ChannelFlow) : Type 0 where
  pub filled : AllFilled f.pending
  pub eof : is_sent f.eof ≡ true → f.pending ≡ []
  pub close : is_sent f.close ≡ true → f.pending ≡ []
  pub last : is_sent f.close ≡ true → is_due f.eof ≡ false

-- A channel in the state in which calls leave it: its flow is ordered, and an open of ours that waits for its answer
-- has no window.
pub record IsSound (c : ChannelState) : Type 0 where
  pub flow : IsOrdered c.flow
  pub unopened : is_some (awaited_by (Some c)) ≡ true → c.flow.window ≡ 0

-- a call's part in the account of a channel
pub record CallPart : Type 0 where
  pub more : List Waiting  -- what it takes
  pub gain : ℕ  -- what it adds to the window
  pub eof : Bool  -- it asks for EOF
  pub close : Bool  -- it asks for our close
  pub last : Bool  -- nothing is taken after it
  pub sends : Bool  -- bytes may be sent
  pub ends : Bool  -- EOF and close may be sent
  pub answer : Option Head  -- the channel's head, where it answers the channel's open
  pub used : ℕ  -- how many bytes of our window the peer used
  pub returned : List ℕ  -- by how much our window is raised

abbrev pub no_part : CallPart
no_part = record {
  more = [];
  gain = 0;
  eof = false;
  close = false;
  last = false;
  sends = false;
  ends = false;
  answer = None;
  used = 0;
  returned = [];
}

abbrev pub bytes_part : Stream → List ℕ → Bool → ChannelState → CallPart
bytes_part stream bytes exchanging c =
    if takes c.flow && not (length bytes == 0)
    then record no_part { more = record { stream = stream; bytes = bytes } ∷ []; sends = not exchanging; ends = true }
    else no_part

-- EOF asked for after our close was sent is ignored
abbrev pub eof_part : ChannelState → CallPart
eof_part c = record no_part { eof = not (is_sent c.flow.close); last = true; ends = true }

abbrev pub close_part : CallPart
close_part = record no_part { close = true; last = true; ends = true }

abbrev pub grant_part : ℕ → Bool → ChannelState → CallPart
grant_part amount exchanging c =
    if c.head.established
    then record no_part { gain = held amount c.flow.window; sends = not exchanging; ends = true }
    else no_part

abbrev pub flush_part : CallPart
flush_part = record no_part { sends = true; ends = true }

abbrev pub confirm_part : ℕ → ℕ → ℕ → ChannelState → CallPart
confirm_part recipient window packet c =
    if is_some (awaited_by (Some c))
    then record no_part { gain = window; answer = Some (confirmed_head recipient packet c.head) }
    else no_part

abbrev pub accept_part : ChannelState → CallPart
accept_part c = if is_reserved c then record no_part { answer = Some (accepted_head c.head) } else no_part

abbrev pub received_part : ℕ → ℕ → ChannelState → CallPart
received_part len target c =
    if c.head.established
    then record no_part { used = len; returned = adjust_of target (c.own_window - len) }
    else no_part

abbrev pub part : ℕ → Call → ChannelState → CallPart
part n (SettleServer id true) c = if id == n then accept_part c else no_part
part n (Confirm id recipient window packet) c = if id == n then confirm_part recipient window packet c else no_part
part n (Bytes id stream bytes exchanging) c = if id == n then bytes_part stream bytes exchanging c else no_part
part n (AskEof id) c = if id == n then eof_part c else no_part
part n (AskClose id) c = if id == n then close_part else no_part
part n (Grant id amount exchanging) c = if id == n then grant_part amount exchanging c else no_part
part n FlushAll c = flush_part
part n (Received id len target) c = if id == n then received_part len target c else no_part
part n call c = no_part

-- how many bytes of the first call wait
abbrev pub first_of : List Waiting → ℕ
first_of [] = 0
first_of (w ∷ ws) = length w.bytes

-- Each piece is the longest that the packet size, the rest of the window and the rest of its call's bytes allow, and
-- isn't empty.
abbrev pub AreLongest : ℕ → ℕ → List Waiting → List Packet → Type 0
AreLongest size window waiting [] = Unit {0}
AreLongest size window waiting (Piece stream bytes ∷ packets) =
    (0 < length bytes)
    × (length bytes ≡ min size (min window (first_of waiting)))
    × AreLongest size (window - length bytes) (left_of (length bytes) waiting) packets
AreLongest size window waiting (Eof ∷ packets) = AreLongest size window waiting packets
AreLongest size window waiting (Close ∷ packets) = AreLongest size window waiting packets
AreLongest size window waiting (Adjust amount ∷ packets) = AreLongest size window waiting packets

-- Bytes only before EOF and close, EOF at most once and before close, close at most once. The first two say whether EOF
-- and close were written before these packets, the last two whether they were after them.
abbrev pub Orderly : Bool → Bool → List Packet → Bool → Bool → Type 0
Orderly eof close [] eof_then close_then = (eof ≡ eof_then) × (close ≡ close_then)
Orderly eof close (Piece stream bytes ∷ packets) eof_then close_then =
    (eof ≡ false) × (close ≡ false) × Orderly eof close packets eof_then close_then
Orderly eof close (Eof ∷ packets) eof_then close_then =
    (eof ≡ false) × (close ≡ false) × Orderly true close packets eof_then close_then
Orderly eof close (Close ∷ packets) eof_then close_then = (close ≡ false) × Orderly eof true packets eof_then close_then
Orderly eof close (Adjust amount ∷ packets) eof_then close_then = Orderly eof close packets eof_then close_then

-- neither EOF nor close is due
pub record NoneDue (f : ChannelFlow) : Type 0 where
  pub eof : is_due f.eof ≡ false
  pub close : is_due f.close ≡ false

-- What a call does to the flow of a channel with this head, by its part in the account: the packets that it writes, and
-- the flow after it.
pub record FlowMoves (h : Head) (f after : ChannelFlow) (packets : List Packet) (p : CallPart) : Type 0 where
  pub balance : bytes_in packets ++ pending after.pending ≡ pending f.pending ++ pending p.more
  pub window : length (bytes_in packets) + after.window ≡ f.window + p.gain
  pub longest : AreLongest h.packet_size (f.window + p.gain) (f.pending ++ p.more) packets
  pub order : Orderly (is_sent f.eof) (is_sent f.close) packets (is_sent after.eof) (is_sent after.close)
  pub eof : is_unasked after.eof ≡ (is_unasked f.eof && not p.eof)
  pub close : is_unasked after.close ≡ (is_unasked f.close && not p.close)
  pub taking : takes after ≡ (takes f && not p.last)
  pub prompt : p.sends ≡ true → h.established ≡ true → 0 < h.packet_size → 0 < after.window → after.pending ≡ []
  pub ends : p.ends ≡ true → h.established ≡ true → after.pending ≡ [] → NoneDue after

-- the head after a call
abbrev pub answered : Option Head → Head → Head
answered None h = h
answered (Some new) h = new

-- What a call does to a channel that the table has before and after it: the head stays unless the call answers the
-- channel's open, our window falls by what the peer used and rises by what is returned, and the flow moves.
pub record Moves (c after : ChannelState) (packets : List Packet) (p : CallPart) : Type 0 where
  pub head : after.head ≡ answered p.answer c.head
  pub own : after.own_window ≡ (c.own_window - p.used) + sum p.returned
  pub returned : amounts_in packets ≡ p.returned
  pub flow : FlowMoves after.head c.flow after.flow packets p
  pub sound : IsSound after

-- ---- lists of calls

-- what a call may add to the channel's window: the confirmation's window, and each grant once it is established
abbrev pub gain : ℕ → Call → ChannelState → ℕ
gain n (Confirm id recipient window packet) c = if id == n && is_some (awaited_by (Some c)) then window else 0
gain n (Grant id amount exchanging) c = if id == n && c.head.established then amount else 0
gain n call c = 0

abbrev pub gain_in : ℕ → Call → Option ChannelState → ℕ
gain_in n call None = 0
gain_in n call (Some c) = gain n call c

-- what the calls grant in sum, without an upper bound
abbrev pub granted : ℕ → List Call → TableState → ℕ
granted n [] t = 0
granted n (call ∷ calls) t = gain_in n call (channel_of n t.channels) + granted n calls (called call t).table

abbrev pub part_in : ℕ → Call → Option ChannelState → CallPart
part_in n call None = no_part
part_in n call (Some c) = part n call c

-- what the calls add to the window, which saturates at the last u32
abbrev pub added : ℕ → List Call → TableState → ℕ
added n [] t = 0
added n (call ∷ calls) t = (part_in n call (channel_of n t.channels)).gain + added n calls (called call t).table

-- the calls ask for EOF before our close is sent
abbrev pub asks_eof : ℕ → List Call → TableState → Bool
asks_eof n [] t = false
asks_eof n (call ∷ calls) t =
    (part_in n call (channel_of n t.channels)).eof || asks_eof n calls (called call t).table

-- the calls ask for our close
abbrev pub asks_close : ℕ → List Call → TableState → Bool
asks_close n [] t = false
asks_close n (call ∷ calls) t =
    (part_in n call (channel_of n t.channels)).close || asks_close n calls (called call t).table

-- the last of the calls lets the channel's EOF and close be sent, or if there are no calls, one before them did
abbrev pub lets_end : Bool → ℕ → List Call → TableState → Bool
lets_end before n [] t = before
lets_end before n (call ∷ calls) t =
    lets_end (part_in n call (channel_of n t.channels)).ends n calls (called call t).table

-- the table has the number after each of the calls
abbrev pub HasThroughout : ℕ → List Call → TableState → Type 0
HasThroughout n [] t = Unit {0}
HasThroughout n (call ∷ calls) t =
    (is_some (channel_of n (called call t).table.channels) ≡ true) × HasThroughout n calls (called call t).table

abbrev pub has_eof : List Packet → Bool
has_eof [] = false
has_eof (Eof ∷ packets) = true
has_eof (p ∷ packets) = has_eof packets

abbrev pub has_close : List Packet → Bool
has_close [] = false
has_close (Close ∷ packets) = true
has_close (p ∷ packets) = has_close packets

-- a channel as it is after an open of ours or of the peer's
abbrev pub IsMade : ℕ → ChannelState → Type 0
IsMade n c =
    ((window packet : ℕ) × (ticket : Option Ticket) × (c ≡ opened_by_user n window packet ticket))
    ⊎ ((recipient window packet own : ℕ) × (c ≡ reserved_by_server n recipient window packet own))

-- A life of the number n: on a table with no channels the calls `before` are made, then an open makes the channel
-- `start` under this number, and the table has the number after each of the calls `calls`, and the channel `end` after
-- the last.
pub record Life (n : ℕ) : Type 0 where
  pub last : ℕ  -- the last number that was assigned before all
  pub before : List Call
  pub start : ChannelState
  pub calls : List Call
  pub end : ChannelState
  pub next : next_number (ran before (no_channels last)).table ≡ Some n
  pub made : IsMade n start
  pub stands : HasThroughout n calls (made_in start (ran before (no_channels last)).table)
  pub there : channel_of n (ran calls (made_in start (ran before (no_channels last)).table)).table.channels ≡ Some end

-- the table with the new channel
abbrev pub born : (n : ℕ) → Life n → TableState
born n l = made_in l.start (ran l.before (no_channels l.last)).table

-- the table after the life's calls
abbrev pub table_after : (n : ℕ) → Life n → TableState
table_after n l = (ran l.calls (born n l)).table

-- the channel's packets
abbrev pub sent : (n : ℕ) → Life n → List Packet
sent n l = packets_by n (ran l.calls (born n l)).output

-- the last of the calls lets EOF and close be sent, and nothing waits before them
pub record MayEnd (n : ℕ) (l : Life n) : Type 0 where
  pub lets : lets_end false n l.calls (born n l) ≡ true
  pub established : l.end.head.established ≡ true
  pub empty : l.end.flow.pending ≡ []

-- The account of a life.
pub record Account (n : ℕ) (l : Life n) : Type 0 where
  pub balance : bytes_in (sent n l) ++ pending l.end.flow.pending ≡ taken n l.calls
  pub window : length (bytes_in (sent n l)) + l.end.flow.window ≡ l.start.flow.window + added n l.calls (born n l)
  pub within : added n l.calls (born n l) ≤ granted n l.calls (born n l)
  pub order : Orderly false false (sent n l) (is_sent l.end.flow.eof) (is_sent l.end.flow.close)
  pub whole : has_eof (sent n l) ≡ true → bytes_in (sent n l) ≡ taken n l.calls
  pub closed : has_close (sent n l) ≡ true → bytes_in (sent n l) ≡ taken n l.calls
  pub eof_sent : asks_eof n l.calls (born n l) ≡ true → MayEnd n l → has_eof (sent n l) ≡ true
  pub close_sent : asks_close n l.calls (born n l) ≡ true → MayEnd n l → has_close (sent n l) ≡ true

abbrev pub EachLifeHasItsAccount : Type 0
EachLifeHasItsAccount = (n : ℕ) (l : Life n) → Account n l

-- the first list is a front of the second
abbrev pub IsFront : List (Stream × ℕ) → List (Stream × ℕ) → Type 0
IsFront bytes all = (rest : List (Stream × ℕ)) × (bytes ++ rest ≡ all)

-- the packets of a life, and of one more call
abbrev pub sent_with : (n : ℕ) → Life n → Call → List Packet
sent_with n l call = sent n l ++ packets_by n (called call (table_after n l)).output

-- However a life ends, by a refusal of either side or by the peer's close: what was sent is a front of what was taken.
abbrev pub EachEndLeavesAFront : Type 0
EachEndLeavesAFront =
    (n : ℕ) (l : Life n) (last : Call) →
    channel_of n (called last (table_after n l)).table.channels ≡ None → IsFront (bytes_in (sent_with n l last)) (taken n l.calls)

-- The peer's close of the number ends a life: among all that was written our close occurs once, with no bytes and no
-- EOF after it; what was sent is a front of what was taken; and the number is free.
pub record Closing (n : ℕ) (l : Life n) : Type 0 where
  pub once : (eof : Bool) × Orderly false false (sent_with n l (PeerClose n)) eof true
  pub front : IsFront (bytes_in (sent_with n l (PeerClose n))) (taken n l.calls)
  pub free : channel_of n (called (PeerClose n) (table_after n l)).table.channels ≡ None

-- if the channel is established when the peer's close comes
abbrev pub EachCloseEndsALife : Type 0
EachCloseEndsALife = (n : ℕ) (l : Life n) → l.end.head.established ≡ true → Closing n l

-- a call in which bytes may be sent: data or a grant while no exchange runs, or a flush
abbrev pub may_send : Call → Bool
may_send (Bytes id stream bytes exchanging) = not exchanging
may_send (Grant id amount exchanging) = not exchanging
may_send FlushAll = true
may_send call = false

abbrev pub packets_in : List ChannelPacket → List Packet
packets_in [] = []
packets_in (s ∷ output) = s.packet ∷ packets_in output

-- a packet that isn't one of bytes
abbrev pub IsNoData : Packet → Type 0
IsNoData (Piece stream bytes) = ⊥
IsNoData packet = Unit {0}

-- any other call writes no packet of bytes
abbrev pub ExchangesWriteNoData : Type 0
ExchangesWriteNoData =
    (call : Call) (t : TableState) → may_send call ≡ false → AllByRecursion IsNoData (packets_in (called call t).output)

-- any other call sends no bytes
abbrev pub ExchangesAreQuiet : Type 0
ExchangesAreQuiet =
    (call : Call) (t : TableState) → may_send call ≡ false → bytes_in (packets_in (called call t).output) ≡ []

-- a new number is the next that is free
abbrev pub NumbersGoOn : Type 0
NumbersGoOn = (t : TableState) (n : ℕ) → next_number t ≡ Some n → IsNext t n

-- each packet is addressed to the peer's number of the channel that wrote it, which is established
abbrev pub AllAddressed : List ChannelState → List ChannelPacket → Type 0
AllAddressed cs [] = Unit {0}
AllAddressed cs (s ∷ output) = (recipient_in (channel_of s.number cs) ≡ Some s.recipient) × AllAddressed cs output

-- a table whose channels have different numbers and are sound, as every list of calls leaves it
pub record IsLegal (t : TableState) : Type 0 where
  pub apart : Apart (numbers t.channels)
  pub sound : (n : ℕ) (c : ChannelState) → channel_of n t.channels ≡ Some c → IsSound c

-- each call of a legal table does its part to each channel that the table has before and after it
abbrev pub EachCallDoesItsPart : Type 0
EachCallDoesItsPart =
    (n : ℕ) (call : Call) (t : TableState) (c after : ChannelState) → IsLegal t →
    channel_of n t.channels ≡ Some c → channel_of n (called call t).table.channels ≡ Some after →
    Moves c after (packets_by n (called call t).output) (part n call c)

abbrev pub PacketsAreAddressed : Type 0
PacketsAreAddressed = (call : Call) (t : TableState) → IsLegal t → AllAddressed t.channels (called call t).output

-- what holds of every call
pub record EachCallKeepsTheRules : Type 0 where
  pub quiet : ExchangesAreQuiet
  pub silent : ExchangesWriteNoData
  pub addressed : PacketsAreAddressed
  pub numbers : NumbersGoOn

-- a table without channels is legal, and every call of a legal table leaves it legal
abbrev pub LegalStays : Type 0
LegalStays = ((last : ℕ) → IsLegal (no_channels last)) × ((call : Call) (t : TableState) → IsLegal t → IsLegal (called call t).table)

-- a call did its part to each channel that the table had before and after it
pub record DidItsPart (call : Call) (before after : TableState) : Type 0 where
  pub part :
      (n : ℕ) (c d : ChannelState) → channel_of n before.channels ≡ Some c → channel_of n after.channels ≡ Some d →
      Moves c d (packets_by n (called call before).output) (part n call c)
