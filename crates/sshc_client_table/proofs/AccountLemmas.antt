-- The channels' packets among the records of moves are those of the moves' calls of the channel table.
use Rattle.std.proofs.Common.{◌≡◌, ℕ, Bool, true, false, List, [], ◌∷◌, ◌++◌, eqb, if◌then◌else◌, Option, Some, None, refl, ap, sym, ◌∙◌, append_assoc}
use Rattle.std.proofs.lemmas.List.{append-nil}
use Rattle.sshc_wire.specs.Outgoing.{listed}
use Rattle.sshc_wire.specs.declared.channel_open_failure.ChannelOpenFailure.{ChannelOpenFailure}
use Rattle.sshc_wire.specs.declared.disconnect.Disconnect.{Disconnect}
use Rattle.sshc_wire.specs.declared.record.Record.{Record}
use Rattle.sshc_wire.specs.declared.record.Record.TheVariants.{Payload, Resolved}
use Rattle.sshc_wire.specs.declared.resolution.Resolution.{Resolution}
use Rattle.sshc_wire.specs.declared.resolution.Resolution.TheVariants.{ChannelOpened, ChannelOpenFailed, Dropped, ExtInfoSeen, HostKeysProved, SigAlgs}
use Rattle.sshc_wire.specs.declared.ticket.Ticket.{Ticket}
use Rattle.sshc_transport.specs.declared.exchange.ExchangeFlag.{ExchangeFlag}
use Rattle.sshc_transport.specs.declared.exchange.ExchangeFlag.TheVariants.{Idle}
use Rattle.sshc_auth.specs.Row.{resolved}
use Rattle.sshc_auth_request.specs.RequestTexts.{disconnect}
use Rattle.sshc_mux.specs.declared.chunk.Stream.TheVariants as Streams
use Rattle.sshc_mux.specs.ChannelState.{TableState, channel_of}
use Rattle.sshc_mux.specs.Packets.{Packet, Piece, Eof, Close, Adjust, packet_text}
use Rattle.sshc_mux.specs.ChannelTable.{ChannelPacket, records_of}
use Rattle.sshc_mux.specs.ChannelAccount.{Call, EachLifeHasItsAccount, Life, born, called, no_channels, ran}
use Rattle.sshc_client_packets.specs.declared.channel_open.Sender.{Sender}
use Rattle.sshc_client_packets.specs.GlobalRequests.{global_request_text}
use Rattle.sshc_client_packets.specs.ChannelOpens.{ChannelOpen, channel_open_text, confirmation_text, open_failure_text}
use Rattle.sshc_client_packets.specs.ChannelRequests.{channel_request_text}
use Rattle.sshc_client_packets.specs.Messages.{Message, Requests, Grants, Denies, Opens, Confirms, Refuses, RequestsOn, GrantsOn, DeniesOn}
use Rattle.sshc_client_table.specs.declared.reply_entry.ReplyEntry.{ReplyEntry}
use Rattle.sshc_mux.specs.ChannelTable.Opens.{awaited}
use Rattle.sshc_client_table.specs.Messages.{asking_message, disconnection, sent}
use Rattle.sshc_client_table.specs.SessionState.{SessionState}
use Rattle.sshc_client_table.specs.Moves as m
use Rattle.sshc_client_table.specs.Moves.{Deed, Move, after, calls_in, calls_of, deed, deed_of, did, done, done_if, may_go, onto, still, with_deed}
use Rattle.sshc_client_table.specs.SessionAccount.{Accounted, HasItsAccount, Lives, channel_packet, channel_packets, said_packets}
use Rattle.sshc_client_table.specs.ListLaws.{onto-two}

-- ---- lists one after another

pub packets-append : (a b : List Record) → channel_packets (a ++ b) ≡ channel_packets a ++ channel_packets b
packets-append [] b = refl
packets-append (r ∷ a) b = ap (λ (ps : List (List ℕ)). channel_packet r ++ ps) (packets-append a b) ∙ sym (append_assoc (channel_packet r) (channel_packets a) (channel_packets b))

output-append : (a b : List ChannelPacket) → said_packets (a ++ b) ≡ said_packets a ++ said_packets b
output-append [] b = refl
output-append (s ∷ a) b = ap (λ (ps : List (List ℕ)). packet_text s.recipient s.packet ∷ ps) (output-append a b)

pub ran-table : (a b : List Call) (t : TableState) → (ran (a ++ b) t).table ≡ (ran b (ran a t).table).table
ran-table [] b t = refl
ran-table (c ∷ a) b t = ran-table a b (called c t).table

ran-output : (a b : List Call) (t : TableState) → said_packets (ran (a ++ b) t).output ≡ said_packets (ran a t).output ++ said_packets (ran b (ran a t).table).output
ran-output [] b t = refl
ran-output (c ∷ a) b t =
    output-append (called c t).output (ran (a ++ b) (called c t).table).output
    ∙ ap (λ (ps : List (List ℕ)). said_packets (called c t).output ++ ps) (ran-output a b (called c t).table)
    ∙ sym (append_assoc (said_packets (called c t).output) (said_packets (ran a (called c t).table).output) (said_packets (ran b (ran a (called c t).table).table).output))
    ∙ ap (λ (ps : List (List ℕ)). ps ++ said_packets (ran b (ran a (called c t).table).table).output) (sym (output-append (called c t).output (ran a (called c t).table).output))

-- ---- which packets are of channels

of_channel : (recipient : ℕ) (p : Packet) → channel_packet (Payload (packet_text recipient p)) ≡ packet_text recipient p ∷ []
of_channel recipient (Piece Streams.Data bytes) = refl
of_channel recipient (Piece (Streams.Extended code) bytes) = refl
of_channel recipient Eof = refl
of_channel recipient Close = refl
of_channel recipient (Adjust amount) = refl

all_of_channel : (output : List ChannelPacket) → channel_packets (records_of output) ≡ said_packets output
all_of_channel [] = refl
all_of_channel (s ∷ output) =
    ap (λ (ps : List (List ℕ)). ps ++ channel_packets (records_of output)) (of_channel s.recipient s.packet)
    ∙ ap (λ (ps : List (List ℕ)). packet_text s.recipient s.packet ∷ ps) (all_of_channel output)

-- ---- what holds no packet of a channel

abbrev pub IsPlain : List Record → Type 0
IsPlain records = channel_packets records ≡ []

pub plain_message : (message : Message) → IsPlain (sent message)
unfolding global_request_text channel_open_text confirmation_text open_failure_text channel_request_text
plain_message (Requests want_reply request) = refl
plain_message Grants = refl
plain_message Denies = refl
plain_message (Opens asked sender) = refl
plain_message (Confirms confirmation) = refl
plain_message (Refuses recipient reason) = refl
plain_message (RequestsOn recipient request) = refl
plain_message (GrantsOn recipient) = refl
plain_message (DeniesOn recipient) = refl

plain_disconnection : (reason : Disconnect) (description language : List ℕ) → IsPlain (disconnection reason description language)
unfolding disconnect
plain_disconnection reason description language = refl

plain_if : (b : Bool) (ticket : Ticket) (resolution : Resolution) → IsPlain (if b then [] else Resolved ticket resolution ∷ [])
plain_if true ticket resolution = refl
plain_if false ticket resolution = refl

pub plain_answer : (ticket : Ticket) (resolution : Resolution) → IsPlain (resolved ticket resolution)
plain_answer ticket resolution = plain_if (eqb ticket.0 0) ticket resolution

plain_open_answer : (o : Option (Option Ticket)) (resolution : Resolution) → IsPlain (m.open_answer o resolution)
plain_open_answer None resolution = refl
plain_open_answer (Some ticket) resolution = plain_answer (m.or_none ticket) resolution

plain_open : (asked : ChannelOpen) (o : Option ℕ) (side : ℕ → Sender) → IsPlain (m.open_packet asked o side)
plain_open asked None side = refl
plain_open asked (Some n) side = plain_message (Opens asked (side n))

plain_accept : (o : Option ℕ) (side : Sender) → IsPlain (m.accept_packet o side)
plain_accept None side = refl
plain_accept (Some recipient) side = plain_message (Confirms (record { recipient = recipient; sender = side }))

plain_reject : (o : Option ℕ) (reason : ChannelOpenFailure) → IsPlain (m.reject_packet o reason)
plain_reject None reason = refl
plain_reject (Some recipient) reason = plain_message (Refuses recipient reason)

plain_addressed : (o : Option ℕ) (message : ℕ → Message) → IsPlain (m.addressed o message)
plain_addressed None message = refl
plain_addressed (Some recipient) message = plain_message (message recipient)

plain_reply : (replies : List ReplyEntry) (resolution : Option Resolution) → IsPlain (m.reply_answer replies resolution)
plain_reply [] resolution = refl
plain_reply (first ∷ replies) None = refl
plain_reply (first ∷ replies) (Some (ChannelOpened id)) = refl
plain_reply (first ∷ replies) (Some (ChannelOpenFailed reason)) = refl
plain_reply (first ∷ replies) (Some resolution) = plain_answer (m.or_none first.ticket) resolution

plain_direct : (ticket : Ticket) (resolution : Resolution) → IsPlain (m.direct_answer ticket resolution)
plain_direct ticket Dropped = plain_answer ticket Dropped
plain_direct ticket ExtInfoSeen = plain_answer ticket ExtInfoSeen
plain_direct ticket (SigAlgs known names) = plain_answer ticket (SigAlgs known names)
plain_direct ticket HostKeysProved = plain_answer ticket HostKeysProved
plain_direct ticket resolution = refl

plain_told : (output : Record) → IsPlain (m.told output)
plain_told (Payload packet) = refl
plain_told (Resolved ticket resolution) = refl
plain_told output = refl

plain_begin : (flag : ExchangeFlag) → IsPlain (m.peer_begin_says flag)
plain_begin Idle = refl
plain_begin flag = refl

-- a move's records, except the packets of its call
plain_deed : (move : Move) (s : SessionState) → IsPlain (deed move s).says
plain_deed (m.Opens asked ticket) s = plain_open asked _ (m.our_side s)
plain_deed (m.Confirms c) s = plain_open_answer (awaited c.recipient s.table) (ChannelOpened (record { 0 = c.recipient }))
plain_deed (m.Fails id reason) s = plain_open_answer (awaited id s.table) (ChannelOpenFailed reason)
plain_deed (m.Accepts id) s = plain_accept _ (m.our_side s id)
plain_deed (m.Rejects id reason) s = plain_reject _ reason
plain_deed (m.RequestsOn id request) s = plain_addressed _ (λ recipient. RequestsOn recipient request)
plain_deed (m.AnswersOn id done) s = plain_addressed _ (m.answer_on done)
plain_deed (m.Answers done) s = plain_message (m.answer_to_all done)
plain_deed (m.Asks ask) s = plain_message (asking_message ask)
plain_deed (m.Disconnects reason description language) s = plain_disconnection reason description language
plain_deed (m.Replied resolution) s = plain_reply s.replies resolution
plain_deed (m.Resolves ticket resolution) s = plain_direct ticket resolution
plain_deed (m.DeniesTicket ticket) s = plain_answer ticket _
plain_deed (m.Tells output) s = plain_told output
plain_deed m.PeerBegins s = plain_begin s.opening.flag
plain_deed move s = refl

plain_done : (b : Bool) (d : Deed) (s : SessionState) → IsPlain d.says → IsPlain (done_if b d s).says
plain_done true d s plain = plain
plain_done false d s plain = refl

-- ---- one move

pub record One (s new : SessionState) (calls : List Call) : Type 0 where
  pub table : new.table ≡ (ran calls s.table).table
  pub packets : channel_packets new.records ≡ channel_packets s.records ++ said_packets (ran calls s.table).output

did_table : (o : Option Call) (t : TableState) → (did o t).table ≡ (ran (listed o) t).table
did_table None t = refl
did_table (Some call) t = refl

did_said : (o : Option Call) (t : TableState) → (did o t).output ≡ (ran (listed o) t).output
did_said None t = refl
did_said (Some call) t = sym (append-nil (called call t).output)

one_deed : (d : Deed) (s : SessionState) → IsPlain d.says → One s (with_deed d s) (listed d.call)
one_deed d s plain = record {
  table = did_table d.call s.table;
  packets =
      ap channel_packets (onto-two s.records (records_of (did d.call s.table).output) d.says)
      ∙ packets-append s.records (records_of (did d.call s.table).output ++ d.says)
      ∙ ap (λ (ps : List (List ℕ)). channel_packets s.records ++ ps)
      (packets-append (records_of (did d.call s.table).output) d.says
      ∙ ap (λ (ps : List (List ℕ)). channel_packets (records_of (did d.call s.table).output) ++ ps) plain
      ∙ append-nil (channel_packets (records_of (did d.call s.table).output))
      ∙ all_of_channel (did d.call s.table).output
      ∙ ap said_packets (did_said d.call s.table));
}

pub one : (move : Move) (s : SessionState) → One s (after move s) (calls_of move s)
unfolding after
one move s = one_deed (deed_of move s) s (plain_done (may_go move s) (deed move s) s (plain_deed move s))

-- ---- moves one after another

accounted_more : (move : Move) (moves : List Move) (s : SessionState) → One s (after move s) (calls_of move s) → Accounted moves (after move s) → Accounted (move ∷ moves) s
accounted_more move moves s first rest =
    let a : List Call = calls_of move s in
    let b : List Call = calls_in moves (after move s) in
    let here : (ran a s.table).table ≡ (after move s).table = sym first.table in
    record {
      table = rest.table ∙ ap (λ (t : TableState). (ran b t).table) (sym here) ∙ sym (ran-table a b s.table);
      packets =
          rest.packets
          ∙ ap (λ (ps : List (List ℕ)). ps ++ said_packets (ran b (after move s).table).output) first.packets
          ∙ append_assoc (channel_packets s.records) (said_packets (ran a s.table).output) (said_packets (ran b (after move s).table).output)
          ∙ ap (λ (t : TableState). channel_packets s.records ++ (said_packets (ran a s.table).output ++ said_packets (ran b t).output)) (sym here)
          ∙ ap (λ (ps : List (List ℕ)). channel_packets s.records ++ ps) (sym (ran-output a b s.table));
    }

pub accounted : (moves : List Move) (s : SessionState) → Accounted moves s
accounted [] s = record { table = refl; packets = sym (append-nil (channel_packets s.records)) }
accounted (move ∷ moves) s = accounted_more move moves s (one move s) (accounted moves (after move s))

-- ---- lives

pub has_account : EachLifeHasItsAccount → (moves : List Move) (s : SessionState) (n : ℕ) (l : Life n) → Lives moves s n l → HasItsAccount moves s n l
has_account law moves s n l lives =
    let from : (ran (calls_in moves s) s.table).table ≡ (ran (l.before ++ lives.opener ∷ l.calls) (no_channels l.last)).table =
    ap (λ (t : TableState). (ran (calls_in moves s) t).table) lives.empty ∙ ap (λ (cs : List Call). (ran cs (no_channels l.last)).table) lives.calls in
    let parts : (ran (l.before ++ lives.opener ∷ l.calls) (no_channels l.last)).table ≡ (ran l.calls (born n l)).table =
    ran-table l.before (lives.opener ∷ l.calls) (no_channels l.last) ∙ ap (λ (t : TableState). (ran l.calls t).table) lives.opens in
    record {
      end = ap (λ (t : TableState). channel_of n t.channels) ((accounted moves s).table ∙ from ∙ parts) ∙ l.there;
      account = law n l;
    }
