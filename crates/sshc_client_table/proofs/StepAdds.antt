-- What a step adds to the records authenticates nobody, holds no bytes while keys are exchanged, and without a reply the
-- requests wait on.
use Rattle.std.proofs.Common.{◌≡◌, ℕ, Bool, true, false, List, [], ◌∷◌, ◌++◌, eqb, if◌then◌else◌, Option, Some, None, refl, ap, sym, ◌∙◌}
use Rattle.std.specs.List.{AllByRecursion}
use Rattle.sshc_wire.specs.Outgoing.{listed}
use Rattle.sshc_wire.specs.declared.disconnect.Disconnect.{Disconnect}
use Rattle.sshc_wire.specs.declared.record.Record.{Record}
use Rattle.sshc_wire.specs.declared.record.Record.TheVariants as output
use Rattle.sshc_wire.specs.declared.record.Record.TheVariants.{Payload, Resolved}
use Rattle.sshc_wire.specs.declared.resolution.Resolution.{Resolution}
use Rattle.sshc_wire.specs.declared.resolution.Resolution.TheVariants.{ChannelOpened, ChannelOpenFailed}
use Rattle.sshc_wire.specs.declared.ticket.Ticket.{Ticket}
use Rattle.sshc_auth_event.specs.declared.event.Event.{Event}
use Rattle.sshc_transport.specs.declared.exchange.ExchangeFlag.{ExchangeFlag}
use Rattle.sshc_transport.specs.declared.exchange.ExchangeFlag.TheVariants.{Idle, Ours, Peer}
use Rattle.sshc_auth_request.specs.RequestTexts.{disconnect}
use Rattle.sshc_mux.specs.declared.chunk.Stream.TheVariants as streams
use Rattle.sshc_mux.specs.ChannelState.{TableState}
use Rattle.sshc_mux.specs.ChannelTable.{ChannelPacket, records_of}
use Rattle.sshc_mux.specs.ChannelTable.Opens.{awaited}
use Rattle.sshc_mux.specs.ChannelAccount.{Call, IsNoData as IsNoDataPacket, called, may_send, packets_in}
use Rattle.sshc_mux.specs.Packets.{Packet, Piece, Eof, Close, Adjust, packet_text}
use Rattle.sshc_mux.proofs.QuietLemmas.{silent}
use Rattle.sshc_client_packets.specs.ChannelOpens.{channel_open_text, confirmation_text, open_failure_text}
use Rattle.sshc_client_packets.specs.ChannelRequests.{channel_request_text}
use Rattle.sshc_client_packets.specs.GlobalRequests.{global_request_text}
use Rattle.sshc_client_packets.specs.Messages.{Message, message_text}
use Rattle.sshc_client_packets.specs.Messages as messages
use Rattle.sshc_client_table.specs.ListLaws.{onto-append}
use Rattle.sshc_client_table.specs.Messages.{asking_message}
use Rattle.sshc_client_table.specs.Moves as m
use Rattle.sshc_client_table.specs.Moves.{Deed, Fronts, Move, after, deed, deed_of, did, done, done_if, may_go, open_answer, or_none}
use Rattle.sshc_client_table.specs.RowMovesLaws.{is_report}
use Rattle.sshc_client_table.specs.RowMoves.{IsExchange, IsReport}
use Rattle.sshc_client_table.specs.SessionAccount.{AllIdle}
use Rattle.sshc_client_table.specs.SessionState.{SessionState, exchanging, is_running}
use Rattle.sshc_client_table.specs.StepLaws.{AuthenticatesNone, IsNoData, IsReply}
use Rattle.sshc_client_table.proofs.QuietLemmas.{idle}
use Rattle.sshc_client_table.proofs.SaidLemmas.{Kinds, says_hold}
use Rattle.sshc_client_table.proofs.StepMoves.{AllFit, StepFits, added_in, all_added}

-- ---- what every move adds

module _ (P : Record → Type 0) (kinds : Kinds P) (answer : (ticket : Ticket) (resolution : Resolution) → P (Resolved ticket resolution)) where
  by_ticket : (b : Bool) (ticket : Ticket) (resolution : Resolution) → AllByRecursion P (if b then [] else Resolved ticket resolution ∷ [])
  by_ticket true ticket resolution = tt
  by_ticket false ticket resolution = (answer ticket resolution, tt)

  open_says : (waits : Option (Option Ticket)) (resolution : Resolution) → AllByRecursion P (open_answer waits resolution)
  open_says None resolution = tt
  open_says (Some ticket) resolution = by_ticket (eqb (or_none ticket).0 0) (or_none ticket) resolution

  gated_says : (b : Bool) (d : Deed) (s : SessionState) → AllByRecursion P d.says → AllByRecursion P (done_if b d s).says
  gated_says true d s all = all
  gated_says false d s all = tt

  -- records of a move, also where it answers an open
  says_all : (event : Event) (move : Move) (s : SessionState) → StepFits event move → AllByRecursion P (deed_of move s).says
  says_all event (m.Confirms c) s fits = gated_says (may_go (m.Confirms c) s) (deed (m.Confirms c) s) s (open_says (awaited c.recipient s.table) (ChannelOpened (record { 0 = c.recipient })))
  says_all event (m.Fails id reason) s fits = gated_says (may_go (m.Fails id reason) s) (deed (m.Fails id reason) s) s (open_says (awaited id s.table) (ChannelOpenFailed reason))
  says_all event (m.Tells record_) s is = says_hold P kinds (m.Tells record_) s (is_report event record_ is)
  says_all event move s fits = says_hold P kinds move s tt

-- ---- nothing authenticates

message_authenticates : (message : Message) → AuthenticatesNone (Payload (message_text message))
unfolding global_request_text channel_open_text confirmation_text open_failure_text channel_request_text
message_authenticates (messages.Requests want_reply request) = refl
message_authenticates messages.Grants = refl
message_authenticates messages.Denies = refl
message_authenticates (messages.Opens asked sender) = refl
message_authenticates (messages.Confirms confirmation) = refl
message_authenticates (messages.Refuses recipient reason) = refl
message_authenticates (messages.RequestsOn recipient request) = refl
message_authenticates (messages.GrantsOn recipient) = refl
message_authenticates (messages.DeniesOn recipient) = refl

leave_authenticates : (reason : Disconnect) (description language : List ℕ) → AuthenticatesNone (Payload (disconnect reason description language))
unfolding disconnect
leave_authenticates reason description language = refl

report_authenticates : (record_ : Record) → IsReport record_ → AuthenticatesNone record_
report_authenticates (output.KexDone kex) is = tt
report_authenticates (output.Channel id happened) is = tt
report_authenticates (output.ServerOpened id opened) is = tt
report_authenticates (output.HostKeysAnnounced blobs) is = tt
report_authenticates record_ never = absurd never

authenticate_none : Kinds AuthenticatesNone
authenticate_none = record {
  plain = record {
    message = λ message none. message_authenticates message;
    disconnection = leave_authenticates;
    begins = tt;
    report = report_authenticates;
  };
  ask = λ ask. message_authenticates (asking_message ask);
  answer = λ ticket resolution none. tt;
}

packet_authenticates : (recipient : ℕ) (packet : Packet) → AuthenticatesNone (Payload (packet_text recipient packet))
packet_authenticates recipient (Piece streams.Data bytes) = refl
packet_authenticates recipient (Piece (streams.Extended code) bytes) = refl
packet_authenticates recipient Eof = refl
packet_authenticates recipient Close = refl
packet_authenticates recipient (Adjust amount) = refl

packets_authenticate : (packets : List ChannelPacket) → AllByRecursion AuthenticatesNone (records_of packets)
packets_authenticate [] = tt
packets_authenticate (one ∷ packets) = (packet_authenticates one.recipient one.packet, packets_authenticate packets)

pub authenticates : (event : Event) (moves : List Move) (s : SessionState) → AllFit event moves → AllByRecursion AuthenticatesNone (added_in moves s)
authenticates event moves s fit =
    all_added AuthenticatesNone (λ t. Unit {0}) event
    (λ move t fits holds. (packets_authenticate (did (deed_of move t).call t.table).output, says_all AuthenticatesNone authenticate_none (λ ticket resolution. tt) event move t fits, tt))
    moves s fit tt

-- ---- no bytes while keys are exchanged

message_quiet : (message : Message) → IsNoData (Payload (message_text message))
unfolding global_request_text channel_open_text confirmation_text open_failure_text channel_request_text
message_quiet (messages.Requests want_reply request) = (refl, refl)
message_quiet messages.Grants = (refl, refl)
message_quiet messages.Denies = (refl, refl)
message_quiet (messages.Opens asked sender) = (refl, refl)
message_quiet (messages.Confirms confirmation) = (refl, refl)
message_quiet (messages.Refuses recipient reason) = (refl, refl)
message_quiet (messages.RequestsOn recipient request) = (refl, refl)
message_quiet (messages.GrantsOn recipient) = (refl, refl)
message_quiet (messages.DeniesOn recipient) = (refl, refl)

leave_quiet : (reason : Disconnect) (description language : List ℕ) → IsNoData (Payload (disconnect reason description language))
unfolding disconnect
leave_quiet reason description language = (refl, refl)

report_quiet : (record_ : Record) → IsReport record_ → IsNoData record_
report_quiet (output.KexDone kex) is = tt
report_quiet (output.Channel id happened) is = tt
report_quiet (output.ServerOpened id opened) is = tt
report_quiet (output.HostKeysAnnounced blobs) is = tt
report_quiet record_ never = absurd never

quiet_kinds : Kinds IsNoData
quiet_kinds = record {
  plain = record {
    message = λ message none. message_quiet message;
    disconnection = leave_quiet;
    begins = tt;
    report = report_quiet;
  };
  ask = λ ask. message_quiet (asking_message ask);
  answer = λ ticket resolution none. tt;
}

packet_quiet : (recipient : ℕ) (packet : Packet) → IsNoDataPacket packet → IsNoData (Payload (packet_text recipient packet))
packet_quiet recipient (Piece stream bytes) never = absurd never
packet_quiet recipient Eof is = (refl, refl)
packet_quiet recipient Close is = (refl, refl)
packet_quiet recipient (Adjust amount) is = (refl, refl)

packets_quiet : (packets : List ChannelPacket) → AllByRecursion IsNoDataPacket (packets_in packets) → AllByRecursion IsNoData (records_of packets)
packets_quiet [] all = tt
packets_quiet (one ∷ packets) (is, all) = (packet_quiet one.recipient one.packet is, packets_quiet packets all)

may_not : (call : Call) (may running : Bool) → may_send call ≡ may → running ≡ true → (may_send call ≡ true → running ≡ false) → may_send call ≡ false
may_not call true running is runs quiet = let clash : true ≡ false = sym runs ∙ quiet is in absurd cc
may_not call false running is runs quiet = is

call_quiet : (call : Option Call) (t : TableState) (running : Bool) → running ≡ true → AllIdle running (listed call) → AllByRecursion IsNoData (records_of (did call t).output)
call_quiet None t running runs quiet = tt
call_quiet (Some call) t running runs quiet = packets_quiet (called call t).output (silent call t (may_not call (may_send call) running refl runs quiet.0))

begun_runs : (flag : ExchangeFlag) (s : SessionState) → is_running (m.peer_begins flag s.opening).flag ≡ true
begun_runs Idle s = refl
begun_runs Ours s = refl
begun_runs Peer s = refl

deed_runs : (event : Event) (move : Move) (s : SessionState) → StepFits event move → (IsExchange event → ⊥) → exchanging s ≡ true → is_running (deed move s).opening.flag ≡ true
deed_runs event m.Resumes s fits none runs = absurd (none fits)
deed_runs event m.Begins s fits none runs = refl
deed_runs event m.PeerBegins s fits none runs = begun_runs s.opening.flag s
deed_runs event move s fits none runs = runs

gated_runs : (b : Bool) (event : Event) (move : Move) (s : SessionState) → StepFits event move → (IsExchange event → ⊥) → exchanging s ≡ true → is_running (done_if b (deed move s) s).opening.flag ≡ true
gated_runs true event move s fits none runs = deed_runs event move s fits none runs
gated_runs false event move s fits none runs = runs

still_runs : (event : Event) (move : Move) (s : SessionState) → StepFits event move → (IsExchange event → ⊥) → exchanging s ≡ true → exchanging (after move s) ≡ true
unfolding after
still_runs event move s fits none runs = gated_runs (may_go move s) event move s fits none runs

pub quiet : (event : Event) (moves : List Move) (s : SessionState) → AllFit event moves → (IsExchange event → ⊥) → exchanging s ≡ true → AllByRecursion IsNoData (added_in moves s)
quiet event moves s fit none runs =
    all_added IsNoData (λ t. exchanging t ≡ true) event
    (λ move t fits running. let later = still_runs event move t fits none running in (
      call_quiet (deed_of move t).call t.table (exchanging (after move t)) later (idle move t),
      says_all IsNoData quiet_kinds (λ ticket resolution. tt) event move t fits,
      later,
    ))
    moves s fit runs

-- ---- requests wait on

no_reply : (event : Event) (move : Move) (s : SessionState) → StepFits event move → (IsReply event → ⊥) → (deed move s).answers ≡ false
no_reply event (m.Replied resolution) s fits none = absurd (none fits)
no_reply event move s fits none = refl

gated_reply : (b : Bool) (event : Event) (move : Move) (s : SessionState) → StepFits event move → (IsReply event → ⊥) → (done_if b (deed move s) s).answers ≡ false
gated_reply true event move s fits none = no_reply event move s fits none
gated_reply false event move s fits none = refl

pub waits_on : (event : Event) (move : Move) (s : SessionState) → StepFits event move → (IsReply event → ⊥) → (after move s).replies ≡ s.replies ++ (deed_of move s).asks
unfolding after
waits_on event move s fits none =
    let d : Deed = done_if (may_go move s) (deed move s) s in
    onto-append (m.left_of d.answers s.replies) d.asks ∙ ap (λ (b : Bool). m.left_of b s.replies ++ d.asks) (gated_reply (may_go move s) event move s fits none)
