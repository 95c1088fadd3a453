-- Laws of the definitions in specs/NoRequests.antt.
use Rattle.std.proofs.Common.{ℕ, Bool, true, false, List, [], ◌∷◌, ◌++◌, length, drop, Option, Some, None, refl, ap, sym, subst, ◌∙◌, append_assoc, arith}
use Rattle.std.proofs.lemmas.List.{append-nil, drop_at}
use Rattle.std.specs.Prelude.{◌==◌}
use Rattle.sshc_wire.specs.CasesLaws.{by_cases}
use Rattle.sshc_wire.specs.declared.channel_open_failure.ChannelOpenFailure.{ChannelOpenFailure}
use Rattle.sshc_wire.specs.declared.disconnect.Disconnect.{Disconnect}
use Rattle.sshc_wire.specs.declared.record.Record.{Record}
use Rattle.sshc_wire.specs.declared.record.Record.TheVariants.{Payload, Resolved}
use Rattle.sshc_wire.specs.declared.resolution.Resolution.{Resolution}
use Rattle.sshc_wire.specs.declared.resolution.Resolution.TheVariants.{ChannelOpened, ChannelOpenFailed, Denied, Dropped, ExtInfoSeen, HostKeysProved, SigAlgs}
use Rattle.sshc_wire.specs.declared.ticket.Ticket.{Ticket}
use Rattle.sshc_transport.specs.declared.exchange.ExchangeFlag.{ExchangeFlag}
use Rattle.sshc_transport.specs.declared.exchange.ExchangeFlag.TheVariants.{Idle, Ours, Peer}
use Rattle.sshc_auth_request.specs.RequestTexts.{disconnect}
use Rattle.sshc_auth.specs.OpeningState.{OpeningState}
use Rattle.sshc_auth.specs.PasswordLaws.{written_two}
use Rattle.sshc_auth.specs.Row.{resolved}
use Rattle.sshc_mux.specs.ChannelTable.{ChannelPacket, records_of}
use Rattle.sshc_mux.specs.ChannelTable.Opens.{awaited, next_number, unsettled_at}
use Rattle.sshc_mux.specs.Packets.{Packet, Piece, Eof, Close, Adjust, packet_text}
use Rattle.sshc_mux.specs.declared.chunk.Stream.TheVariants as streams
use Rattle.sshc_client_packets.specs.declared.channel_open.Sender.{Sender}
use Rattle.sshc_client_packets.specs.ChannelOpens.{ChannelOpen, channel_open_text, confirmation_text, open_failure_text}
use Rattle.sshc_client_packets.specs.ChannelRequests.{channel_request_text}
use Rattle.sshc_client_packets.specs.GlobalRequests.{global_request_text}
use Rattle.sshc_client_packets.specs.Messages.{Message}
use Rattle.sshc_client_packets.specs.Messages.{Requests, Grants, Denies, Opens as OpensWith, Confirms as ConfirmsWith, Refuses, RequestsOn as AsksOn, GrantsOn, DeniesOn}
use Rattle.sshc_client_table.specs.declared.reply_entry.ReplyEntry.{ReplyEntry}
use Rattle.sshc_client_table.specs.ListLaws.{onto-two}
use Rattle.sshc_client_table.specs.Messages.{asking_message, disconnection, sent}
use Rattle.sshc_client_table.specs.Moves.{Accepts, Answers, AnswersOn, Asks, Begins, Confirms, Deed, DeniesTicket, Disconnects, Fails, Move, Opens, PeerBegins, Rejects, Replied, RequestsOn, Resolves, Tells, accept_packet, addressed, after, answer_on, answer_to_all, askable_at, deed, did, direct_answer, done, done_if, may_go, open_answer, open_packet, or_none, our_side, peer_begin_says, peer_begins, recipient_at, reject_packet, reply_answer, told}
use Rattle.sshc_client_table.specs.SessionState.{SessionState}
use Rattle.sshc_client_table.specs.NoRequests.{request_with, WritesNone, AddsNone, IsSameRequest}

none_two : (a b : List Record) → WritesNone a → WritesNone b → WritesNone (a ++ b)
none_two a b one other = λ rest. omega (arith, written_two (request_with rest) a b, one rest, other rest)

none_resolved : (ticket : Ticket) (resolution : Resolution) → WritesNone (resolved ticket resolution)
none_resolved ticket resolution = by_cases WritesNone (ticket.0 == 0) _ _ (λ rest. refl) (λ rest. refl)

-- ---- packets

message_none : (message : Message) → WritesNone (sent message)
unfolding global_request_text channel_open_text confirmation_text open_failure_text channel_request_text
message_none (Requests want_reply request) = λ rest. refl
message_none Grants = λ rest. refl
message_none Denies = λ rest. refl
message_none (OpensWith asked sender) = λ rest. refl
message_none (ConfirmsWith confirmation) = λ rest. refl
message_none (Refuses recipient reason) = λ rest. refl
message_none (AsksOn recipient request) = λ rest. refl
message_none (GrantsOn recipient) = λ rest. refl
message_none (DeniesOn recipient) = λ rest. refl

packet_none : (recipient : ℕ) (packet : Packet) → WritesNone (Payload (packet_text recipient packet) ∷ [])
packet_none recipient (Piece streams.Data bytes) = λ rest. refl
packet_none recipient (Piece (streams.Extended code) bytes) = λ rest. refl
packet_none recipient Eof = λ rest. refl
packet_none recipient Close = λ rest. refl
packet_none recipient (Adjust amount) = λ rest. refl

packets_none : (output : List ChannelPacket) → WritesNone (records_of output)
packets_none [] = λ rest. refl
packets_none (one ∷ output) = none_two (Payload (packet_text one.recipient one.packet) ∷ []) (records_of output) (packet_none one.recipient one.packet) (packets_none output)

disconnection_none : (reason : Disconnect) (description language : List ℕ) → WritesNone (disconnection reason description language)
unfolding disconnect
disconnection_none reason description language = λ rest. refl

open_none : (asked : ChannelOpen) (number : Option ℕ) (side : ℕ → Sender) → WritesNone (open_packet asked number side)
open_none asked None side = λ rest. refl
open_none asked (Some number) side = message_none (OpensWith asked (side number))

answer_none : (ticket : Option (Option Ticket)) (resolution : Resolution) → WritesNone (open_answer ticket resolution)
answer_none None resolution = λ rest. refl
answer_none (Some ticket) resolution = none_resolved (or_none ticket) resolution

accept_none : (recipient : Option ℕ) (side : Sender) → WritesNone (accept_packet recipient side)
accept_none None side = λ rest. refl
accept_none (Some recipient) side = message_none (ConfirmsWith (record { recipient = recipient; sender = side }))

reject_none : (recipient : Option ℕ) (reason : ChannelOpenFailure) → WritesNone (reject_packet recipient reason)
reject_none None reason = λ rest. refl
reject_none (Some recipient) reason = message_none (Refuses recipient reason)

addressed_none : (recipient : Option ℕ) (message : ℕ → Message) → WritesNone (addressed recipient message)
addressed_none None message = λ rest. refl
addressed_none (Some recipient) message = message_none (message recipient)

reply_none : (replies : List ReplyEntry) (resolution : Option Resolution) → WritesNone (reply_answer replies resolution)
reply_none [] resolution = λ rest. refl
reply_none (first ∷ replies) None = λ rest. refl
reply_none (first ∷ replies) (Some (ChannelOpened id)) = λ rest. refl
reply_none (first ∷ replies) (Some (ChannelOpenFailed reason)) = λ rest. refl
reply_none (first ∷ replies) (Some resolution) = none_resolved (or_none first.ticket) resolution

direct_none : (ticket : Ticket) (resolution : Resolution) → WritesNone (direct_answer ticket resolution)
direct_none ticket Dropped = none_resolved ticket Dropped
direct_none ticket ExtInfoSeen = none_resolved ticket ExtInfoSeen
direct_none ticket (SigAlgs known names) = none_resolved ticket (SigAlgs known names)
direct_none ticket HostKeysProved = none_resolved ticket HostKeysProved
direct_none ticket resolution = λ rest. refl

told_none : (output : Record) → WritesNone (told output)
told_none (Payload packet) = λ rest. refl
told_none (Resolved ticket resolution) = λ rest. refl
told_none output = λ rest. refl

begin_none : (flag : ExchangeFlag) → WritesNone (peer_begin_says flag)
begin_none Idle = λ rest. refl
begin_none flag = λ rest. refl

-- ---- moves

deed_none : (m : Move) (s : SessionState) → WritesNone (deed m s).says
deed_none (Opens asked ticket) s = open_none asked (next_number s.table) (our_side s)
deed_none (Confirms c) s = answer_none (awaited c.recipient s.table) _
deed_none (Fails id reason) s = answer_none (awaited id s.table) _
deed_none (Accepts id) s = accept_none (unsettled_at id s.table) (our_side s id)
deed_none (Rejects id reason) s = reject_none (unsettled_at id s.table) reason
deed_none (RequestsOn id request) s = addressed_none (askable_at id s.table) _
deed_none (AnswersOn id done) s = addressed_none (recipient_at id s.table) (answer_on done)
deed_none (Answers done) s = message_none (answer_to_all done)
deed_none (Asks ask) s = message_none (asking_message ask)
deed_none (Disconnects reason description language) s = disconnection_none reason description language
deed_none (Replied resolution) s = reply_none s.replies resolution
deed_none (Resolves ticket resolution) s = direct_none ticket resolution
deed_none (DeniesTicket ticket) s = none_resolved ticket Denied
deed_none (Tells output) s = told_none output
deed_none Begins s = λ rest. refl
deed_none PeerBegins s = begin_none s.opening.flag
deed_none m s = λ rest. refl

gated_none : (b : Bool) (m : Move) (s : SessionState) → WritesNone (done_if b (deed m s) s).says
gated_none true m s = deed_none m s
gated_none false m s = λ rest. refl

after_none : (m : Move) (s : SessionState) → AddsNone s.records (after m s).records
unfolding after
after_none m s =
    let d : Deed = done_if (may_go m s) (deed m s) s in
    let packets : List Record = records_of (did d.call s.table).output in
    (packets ++ d.says, onto-two s.records packets d.says, none_two packets d.says (packets_none (did d.call s.table).output) (gated_none (may_go m s) m s))

pub moves_none : (moves : List Move) (s : SessionState) → AddsNone s.records (done moves s).records
moves_none [] s = ([], sym (append-nil s.records), λ rest. refl)
moves_none (m ∷ moves) s =
    let one = after_none m s in
    let later = moves_none moves (after m s) in
    (one.0 ++ later.0, later.1 ∙ ap (λ (rs : List Record). rs ++ later.0) one.1 ∙ append_assoc s.records one.0 later.0, none_two one.0 later.0 one.2 later.2)

-- the records that moves add after those before contain no such request
pub said_none : (moves : List Move) (s : SessionState) → WritesNone (drop (length s.records) (done moves s).records)
said_none moves s =
    let output = moves_none moves s in
    subst WritesNone (sym (ap (drop (length s.records)) output.1 ∙ drop_at s.records output.0 (length s.records) refl)) output.2

unchanged : (o : OpeningState) → IsSameRequest o o
unchanged o = record { phase = refl; session_id = refl; host_key = refl; user = refl; method = refl; handed = refl }

begins_request : (flag : ExchangeFlag) (o : OpeningState) → IsSameRequest o (peer_begins flag o)
begins_request Idle o = record { phase = refl; session_id = refl; host_key = refl; user = refl; method = refl; handed = refl }
begins_request Ours o = record { phase = refl; session_id = refl; host_key = refl; user = refl; method = refl; handed = refl }
begins_request Peer o = record { phase = refl; session_id = refl; host_key = refl; user = refl; method = refl; handed = refl }

deed_request : (m : Move) (s : SessionState) → IsSameRequest s.opening (deed m s).opening
deed_request PeerBegins s = begins_request s.opening.flag s.opening
deed_request m s = record { phase = refl; session_id = refl; host_key = refl; user = refl; method = refl; handed = refl }

gated_request : (b : Bool) (m : Move) (s : SessionState) → IsSameRequest s.opening (done_if b (deed m s) s).opening
gated_request true m s = deed_request m s
gated_request false m s = unchanged s.opening

after_request : (m : Move) (s : SessionState) → IsSameRequest s.opening (after m s).opening
unfolding after
after_request m s = gated_request (may_go m s) m s

pub moves_request : (moves : List Move) (s : SessionState) → IsSameRequest s.opening (done moves s).opening
moves_request [] s = unchanged s.opening
moves_request (m ∷ moves) s =
    let one = after_request m s in
    let later = moves_request moves (after m s) in
    record {
      phase = later.phase ∙ one.phase;
      session_id = later.session_id ∙ one.session_id;
      host_key = later.host_key ∙ one.host_key;
      user = later.user ∙ one.user;
      method = later.method ∙ one.method;
      handed = later.handed ∙ one.handed;
    }
