-- What happens in an open session, as a list of moves. A row of the table of an open session is a list of moves, and so
-- is what a handler does to a session that it borrows. What a move does is plain data (`Deed`): at most one call of the
-- channel table, then records, then what else changes. So the channels' packets are those of the calls by construction,
-- and a law has to look only at what a move adds to them.
use Rattle.std.specs.Prelude.{◌≡◌, ◌⊎◌, ℕ, ◌+◌, ◌^◌, ◌-◌, min, Bool, true, false, not, ◌&&◌, List, [], ◌∷◌, ◌++◌, drop, Option, Some, None, Result, Ok, Err, if◌then◌else◌}
use Rattle.sshc_wire.specs.declared.channel_open_failure.ChannelOpenFailure.{ChannelOpenFailure}
use Rattle.sshc_wire.specs.declared.disconnect.Disconnect.{Disconnect}
use Rattle.sshc_wire.specs.declared.error.NoMemory.{NoMemory}
use Rattle.sshc_wire.specs.declared.record.Record.{Record}
use Rattle.sshc_wire.specs.declared.record.Record.TheVariants.{Payload, BeginExchange, Resolved}
use Rattle.sshc_wire.specs.declared.resolution.Resolution.{Resolution}
use Rattle.sshc_wire.specs.declared.resolution.Resolution.TheVariants.{ChannelOpened, ChannelOpenFailed, Denied, Dropped, ExtInfoSeen, HostKeysProved, SigAlgs}
use Rattle.sshc_wire.specs.declared.ticket.Ticket.{Ticket}
use Rattle.sshc_transport.specs.declared.exchange.ExchangeFlag.{ExchangeFlag}
use Rattle.sshc_transport.specs.declared.exchange.ExchangeFlag.TheVariants.{Idle, Ours, Peer}
use Rattle.sshc_wire.specs.Outgoing.{listed}
use Rattle.sshc_auth.specs.OpeningState.{OpeningState, no_ticket}
use Rattle.sshc_auth.specs.OpeningTable.Packets.{counted_with}
use Rattle.sshc_auth.specs.Row.{resolved}
use Rattle.sshc_mux.specs.declared.chunk.Stream.{Stream}
use Rattle.sshc_mux.specs.ChannelState.{TableState, channel_of}
use Rattle.sshc_mux.specs.ChannelTable.{Effect, close_sent_in, recipient_in, records_of, unmoved}
use Rattle.sshc_mux.specs.ChannelTable.Opens.{awaited, next_number, unsettled_at}
use Rattle.sshc_mux.specs.ChannelAccount.{Call, OpenUser, ReserveServer, SettleServer, Confirm, Fail, Bytes, AskEof, AskClose, PeerClose, Grant, FlushAll, Received, called}
use Rattle.sshc_client_packets.specs.declared.channel_open.Confirmation.{Confirmation}
use Rattle.sshc_client_packets.specs.declared.channel_open.Sender.{Sender}
use Rattle.sshc_client_packets.specs.ChannelOpens.{ChannelOpen}
use Rattle.sshc_client_packets.specs.ChannelRequests.{ChannelRequest}
use Rattle.sshc_client_packets.specs.Messages.{Message, Grants as Grant81, Denies as Deny82, Opens as OpenMessage, Confirms as ConfirmMessage, Refuses, RequestsOn as RequestMessage, GrantsOn, DeniesOn}
use Rattle.sshc_client_table.specs.declared.reply_entry.ReplyEntry.{ReplyEntry}
use Rattle.sshc_client_table.specs.declared.life.Life.{Life}
use Rattle.sshc_client_table.specs.declared.life.Life.TheVariants.{Left, Over}
use Rattle.sshc_client_table.specs.Messages.{Ask, asking_message, disconnection, queued, sent}
use Rattle.sshc_client_table.specs.SessionState.{SessionState, exchanging, is_live, may_tell, opens_later, own_window, runs}

pub data Move : Type 0 where
  -- calls of the channel table
  Reserves : (sender : Sender) → Move  -- an open of the peer's takes the next number
  Sends : (id : ℕ) → (stream : Stream) → (bytes : List ℕ) → Move
  EndsBytes : (id : ℕ) → Move
  Closes : (id : ℕ) → Move
  PeerCloses : (id : ℕ) → Move
  Grants : (id amount : ℕ) → Move
  Receives : (id len : ℕ) → Move
  -- opens and their answers
  Opens : (asked : ChannelOpen) → (ticket : Option Ticket) → Move  -- an open of ours, with its packet
  Confirms : (confirmation : Confirmation) → Move  -- the peer confirms an open of ours, whose ticket is resolved
  Fails : (id : ℕ) → (reason : ChannelOpenFailure) → Move  -- the peer refuses an open of ours, whose ticket is resolved
  Accepts : (id : ℕ) → Move  -- an open of the peer's is accepted, with its packet
  Rejects : (id : ℕ) → (reason : ChannelOpenFailure) → Move  -- an open of the peer's is refused, with its packet
  -- messages
  RequestsOn : (id : ℕ) → (request : ChannelRequest) → Move
  AnswersOn : (id : ℕ) → (done : Bool) → Move  -- a reply to the peer's request on a channel
  Answers : (done : Bool) → Move  -- a reply to the peer's global request
  Asks : (ask : Ask) → Move  -- a global request, and its entry in the queue
  Disconnects : (reason : Disconnect) → (description language : List ℕ) → Move
  -- answers to tickets, and reports
  Replied : (resolution : Option Resolution) → Move  -- the oldest request is answered
  Resolves : (ticket : Ticket) → (resolution : Resolution) → Move  -- a resolution that no packet of the peer's brings
  DeniesTicket : (ticket : Ticket) → Move  -- before the session is open
  Tells : (output : Record) → Move  -- a record that is neither a packet nor an answer to a ticket
  -- exchanges
  Begins : Move  -- an exchange of ours, where none runs
  PeerBegins : Move  -- the peer's KEXINIT, which begins an exchange or answers ours
  Resumes : Move  -- no exchange runs any more, and what waits is sent
  Counts : (len : ℕ) → Move  -- a packet came while an exchange of ours runs
  -- counts
  Hears : Move  -- something came from the peer
  Misses : Move  -- a keepalive is due
  Targets : (window : ℕ) → Move  -- the handler's new window target
  -- the end
  Leaves : Move  -- the user disconnects
  Stops : Move  -- a step ends or refuses the session

-- what a move does
pub record Deed : Type 0 where
  pub call : Option Call  -- of the channel table
  pub says : List Record  -- records after the packets that the call writes
  pub answers : Bool  -- the oldest request is answered
  pub asks : List ReplyEntry  -- requests whose replies are awaited
  pub opening : OpeningState
  pub keepalives : ℕ
  pub window_target : ℕ
  pub life : Life

-- nothing changes
abbrev pub still : SessionState → Deed
still s = record {
  call = None;
  says = [];
  answers = false;
  asks = [];
  opening = s.opening;
  keepalives = s.keepalives;
  window_target = s.window_target;
  life = s.life;
}

abbrev pub calls_table : Call → SessionState → Deed
calls_table call s = record (still s) { call = Some call }

abbrev pub says_that : List Record → SessionState → Deed
says_that records s = record (still s) { says = records }

abbrev pub calls_and_says : Call → List Record → SessionState → Deed
calls_and_says call records s = record (still s) { call = Some call; says = records }

-- ---- the records of a move

abbrev pub our_side : SessionState → ℕ → Sender
our_side s number =
    record { channel = number; window_size = own_window s; max_packet_size = s.settings.max_packet_size }

-- the open's packet, if there is a number for it
abbrev pub open_packet : ChannelOpen → Option ℕ → (ℕ → Sender) → List Record
open_packet asked None side = []
open_packet asked (Some number) side = sent (OpenMessage asked (side number))

-- the ticket of an answer; 0 if there is none
abbrev pub or_none : Option Ticket → Ticket
or_none None = no_ticket
or_none (Some ticket) = ticket

-- the answer to an open of ours that waits
abbrev pub open_answer : Option (Option Ticket) → Resolution → List Record
open_answer None resolution = []
open_answer (Some ticket) resolution = resolved (or_none ticket) resolution

abbrev pub accept_packet : Option ℕ → Sender → List Record
accept_packet None side = []
accept_packet (Some recipient) side = sent (ConfirmMessage (record { recipient = recipient; sender = side }))

abbrev pub reject_packet : Option ℕ → ChannelOpenFailure → List Record
reject_packet None reason = []
reject_packet (Some recipient) reason = sent (Refuses recipient reason)

-- a message on an established channel, addressed by the peer's number
abbrev pub addressed : Option ℕ → (ℕ → Message) → List Record
addressed None message = []
addressed (Some recipient) message = sent (message recipient)

abbrev pub recipient_at : ℕ → TableState → Option ℕ
recipient_at id t = recipient_in (channel_of id t.channels)

-- nothing is asked on a channel after our close was sent
abbrev pub askable_at : ℕ → TableState → Option ℕ
askable_at id t = if close_sent_in (channel_of id t.channels) then None else recipient_at id t

abbrev pub answer_on : Bool → ℕ → Message
answer_on true recipient = GrantsOn recipient
answer_on false recipient = DeniesOn recipient

abbrev pub answer_to_all : Bool → Message
answer_to_all true = Grant81
answer_to_all false = Deny82

-- the oldest request's ticket is resolved, but never as an answer to an open
abbrev pub reply_answer : List ReplyEntry → Option Resolution → List Record
reply_answer [] resolution = []
reply_answer (first ∷ replies) None = []
reply_answer (first ∷ replies) (Some (ChannelOpened id)) = []
reply_answer (first ∷ replies) (Some (ChannelOpenFailed reason)) = []
reply_answer (first ∷ replies) (Some resolution) = resolved (or_none first.ticket) resolution

-- a resolution that no packet of the peer's brings
abbrev pub direct_answer : Ticket → Resolution → List Record
direct_answer ticket Dropped = resolved ticket Dropped
direct_answer ticket ExtInfoSeen = resolved ticket ExtInfoSeen
direct_answer ticket (SigAlgs known names) = resolved ticket (SigAlgs known names)
direct_answer ticket HostKeysProved = resolved ticket HostKeysProved
direct_answer ticket resolution = []

-- only a record that is neither a packet nor an answer to a ticket is reported
abbrev pub told : Record → List Record
told (Payload packet) = []
told (Resolved ticket resolution) = []
told output = output ∷ []

-- ---- what a move does to the exchange

abbrev pub with_flag : ExchangeFlag → OpeningState → OpeningState
with_flag flag o = record o { flag = flag; counted = 0 }

-- the peer's KEXINIT begins an exchange if none runs; if ours runs it answers ours
abbrev pub peer_begins : ExchangeFlag → OpeningState → OpeningState
peer_begins Idle o = with_flag Peer o
peer_begins flag o = record o { flag = Peer }

-- the transport is asked to begin an exchange if none runs
abbrev pub peer_begin_says : ExchangeFlag → List Record
peer_begin_says Idle = BeginExchange ∷ []
peer_begin_says flag = []

-- ---- one move

-- what a move does if it may be done
abbrev pub deed : Move → SessionState → Deed
deed (Reserves sender) s =
    calls_table (ReserveServer sender.channel sender.window_size sender.max_packet_size (own_window s)) s
deed (Sends id stream bytes) s = calls_table (Bytes id stream bytes (exchanging s)) s
deed (EndsBytes id) s = calls_table (AskEof id) s
deed (Closes id) s = calls_table (AskClose id) s
deed (PeerCloses id) s = calls_table (PeerClose id) s
deed (Grants id amount) s = calls_table (Grant id amount (exchanging s)) s
deed (Receives id len) s = calls_table (Received id len (own_window s)) s
deed (Opens asked ticket) s =
    calls_and_says (OpenUser (own_window s) s.settings.max_packet_size ticket) (open_packet asked (next_number s.table) (our_side s)) s
deed (Confirms c) s =
    calls_and_says (Confirm c.recipient c.sender.channel c.sender.window_size c.sender.max_packet_size)
    (open_answer (awaited c.recipient s.table) (ChannelOpened (record { 0 = c.recipient }))) s
deed (Fails id reason) s = calls_and_says (Fail id) (open_answer (awaited id s.table) (ChannelOpenFailed reason)) s
deed (Accepts id) s = calls_and_says (SettleServer id true) (accept_packet (unsettled_at id s.table) (our_side s id)) s
deed (Rejects id reason) s = calls_and_says (SettleServer id false) (reject_packet (unsettled_at id s.table) reason) s
deed (RequestsOn id request) s =
    says_that (addressed (askable_at id s.table) (λ recipient. RequestMessage recipient request)) s
deed (AnswersOn id done) s = says_that (addressed (recipient_at id s.table) (answer_on done)) s
deed (Answers done) s = says_that (sent (answer_to_all done)) s
deed (Asks ask) s = record (still s) { says = sent (asking_message ask); asks = queued ask }
deed (Disconnects reason description language) s = says_that (disconnection reason description language) s
deed (Replied resolution) s = record (still s) { says = reply_answer s.replies resolution; answers = true }
deed (Resolves ticket resolution) s = says_that (direct_answer ticket resolution) s
deed (DeniesTicket ticket) s = says_that (resolved ticket Denied) s
deed (Tells output) s = says_that (told output) s
deed Begins s = record (still s) { says = BeginExchange ∷ []; opening = with_flag Ours s.opening }
deed PeerBegins s =
    record (still s) { says = peer_begin_says s.opening.flag; opening = peer_begins s.opening.flag s.opening }
deed Resumes s = record (still s) { call = Some FlushAll; opening = with_flag Idle s.opening }
deed (Counts len) s = record (still s) { opening = record (s.opening) { counted = counted_with s.opening len } }
deed Hears s = record (still s) { keepalives = 0 }
deed Misses s = record (still s) { keepalives = min (s.keepalives + 1) (2 ^ 64 - 1) }
deed (Targets window) s = record (still s) { window_target = window }
deed Leaves s = record (still s) { life = Left }
deed Stops s = record (still s) { life = Over }

-- When a move may be done: in an open session that hasn't ended; an exchange of ours if none runs; a denial before the
-- session is open; the end in every session. A record is reported also if the user disconnected while the handler was
-- called.
abbrev pub may_go : Move → SessionState → Bool
may_go (DeniesTicket ticket) s = opens_later s
may_go (Tells output) s = may_tell s
may_go Begins s = is_live s && not (exchanging s)
may_go Leaves s = runs s.life
may_go Stops s = true
may_go m s = is_live s

abbrev pub done_if : Bool → Deed → SessionState → Deed
done_if true d s = d
done_if false d s = still s

abbrev pub deed_of : Move → SessionState → Deed
deed_of m s = done_if (may_go m s) (deed m s) s

-- the requests that remain
abbrev pub left_of : Bool → List ReplyEntry → List ReplyEntry
left_of true replies = drop 1 replies
left_of false replies = replies

-- the call, if there is one
abbrev pub did : Option Call → TableState → Effect
did None t = unmoved t
did (Some call) t = called call t

-- one list after another; the same as `++`, except that appending the empty list is the list itself
abbrev pub onto : {A : Type 0} → List A → List A → List A
onto xs [] = xs
onto xs (y ∷ ys) = xs ++ y ∷ ys

-- the session after a deed
abbrev pub with_deed : Deed → SessionState → SessionState
with_deed d s = record {
  settings = s.settings;
  opening = d.opening;
  table = (did d.call s.table).table;
  replies = onto (left_of d.answers s.replies) d.asks;
  keepalives = d.keepalives;
  window_target = d.window_target;
  records = onto (onto s.records (records_of (did d.call s.table).output)) d.says;
  life = d.life;
}

unfoldable pub after : Move → SessionState → SessionState
after m s = with_deed (deed_of m s) s

-- the moves in their order
abbrev pub done : List Move → SessionState → SessionState
done [] s = s
done (m ∷ moves) s = done moves (after m s)

-- the first of these moves, as many as were done
abbrev pub Fronts : List Move → SessionState → SessionState → Type 0
Fronts [] old new = new ≡ old
Fronts (m ∷ moves) old new = (new ≡ old) ⊎ Fronts moves (after m old) new

-- a call did the move, or ran out of memory and did nothing
abbrev pub Moved : {A : Type 0} → Move → SessionState → SessionState → Result A NoMemory → Type 0
Moved m old new (Ok x) = new ≡ after m old
Moved m old new (Err e) = new ≡ old

-- a call did the moves; if memory ran out, only the first of them
abbrev pub Does : {A : Type 0} → List Move → SessionState → SessionState → Result A NoMemory → Type 0
Does moves old new (Ok x) = new ≡ done moves old
Does moves old new (Err e) = Fronts moves old new

-- ---- the calls of the channel table among them

abbrev pub calls_of : Move → SessionState → List Call
calls_of m s = listed (deed_of m s).call

abbrev pub calls_in : List Move → SessionState → List Call
calls_in [] s = []
calls_in (m ∷ moves) s = calls_of m s ++ calls_in moves (after m s)
