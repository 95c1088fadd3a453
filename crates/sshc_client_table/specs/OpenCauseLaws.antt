-- Each row of an open session that refuses or ends has its cause, and no row leaves or stops the session by a move, or
-- reports a record of an agent: a law about the table, independent of the code that runs it.
use Rattle.std.proofs.Common.{◌≡◌, ◌≢◌, ◌<◌, ◌≤◌, ◌+◌, ◌-◌, ◌*◌, ◌^◌, inl, inr, ℕ, zero, suc, Bool, true, false, List, [], ◌∷◌, ◌++◌, length, Option, Some, None, Result, Ok, Err, refl, ap, sym, ◌∙◌, subst, arith}
use Rattle.std.specs.Prelude.{min, not, ◌==◌, ◌&&◌, nat_lt, is_some}
use Rattle.std.specs.Int.{w32}
use Rattle.std.specs.List.{AllByRecursion}
use Rattle.std.proofs.lemmas.Bool.Decides.{nat_tests}
use Rattle.sshc_wire.specs.CasesLaws.{by_cases}
use Rattle.sshc_wire.specs.Reads.{number_at, text_at}
use Rattle.sshc_wire.specs.Reasons.{disconnect_of}
use Rattle.sshc_wire.specs.declared.channel_record.ChannelRecord.{ChannelRecord}
use Rattle.sshc_wire.specs.declared.channel_record.ChannelRecord.TheVariants as happened
use Rattle.sshc_wire.specs.declared.channel_record.ServerOpen.{ServerOpen}
use Rattle.sshc_wire.specs.declared.channel_record.ServerOpen.TheVariants.{Unknown}
use Rattle.sshc_wire.specs.declared.disconnect.Disconnect.{Disconnect}
use Rattle.sshc_wire.specs.declared.error.WireError.{WireError}
use Rattle.sshc_wire.specs.MessageNumbers.{DISCONNECT, GLOBAL_REQUEST, REQUEST_SUCCESS, REQUEST_FAILURE, CHANNEL_OPEN, CHANNEL_OPEN_CONFIRMATION, CHANNEL_OPEN_FAILURE, CHANNEL_WINDOW_ADJUST, CHANNEL_DATA, CHANNEL_EXTENDED_DATA, CHANNEL_EOF, CHANNEL_CLOSE, CHANNEL_REQUEST, CHANNEL_SUCCESS, CHANNEL_FAILURE}
use Rattle.sshc_wire.specs.declared.ticket.Ticket.{Ticket}
use Rattle.sshc_key.specs.KeyGrammar.{Key}
use Rattle.sshc_auth_event.specs.declared.channel_msg.ChannelMsg.{ChannelMsg}
use Rattle.sshc_auth_event.specs.declared.channel_msg.ChannelMsg.TheVariants as msgs
use Rattle.sshc_auth_event.specs.declared.event.Event.{Event}
use Rattle.sshc_auth_event.specs.declared.event.Event.TheVariants as events
use Rattle.sshc_transport.specs.declared.exchange.ExchangeFlag.{ExchangeFlag}
use Rattle.sshc_transport.specs.declared.exchange.ExchangeFlag.TheVariants as flags
use Rattle.sshc_transport.specs.declared.exchange.ExchangeResult.{ExchangeResult}
use Rattle.sshc_wire.specs.declared.channel_open_failure.ChannelOpenFailure.{ChannelOpenFailure}
use Rattle.sshc_auth.specs.Causes.{Breaks, BreaksBehind, IsEarly, IsEndCause, ReadsTexts, FieldKind, rest_of, text}
use Rattle.sshc_auth.specs.OpeningState.{is_awaiting}
use Rattle.sshc_auth.specs.CauseLaws.{not_kept}
use Rattle.sshc_auth.specs.EachRowLaws.{by_test, same_number}
use Rattle.sshc_auth.specs.OpeningTable.Exchange.{has_kept_key}
use Rattle.sshc_auth.specs.OpeningTable.Packets.{is_ignored, is_too_much, waits_for_exchange}
use Rattle.sshc_auth.specs.OpeningTable.User.{is_seen, sig_algs_answer}
use Rattle.sshc_auth.specs.declared.ended.Ended.{Ended}
use Rattle.sshc_auth.specs.declared.ended.Ended.TheVariants.{RemoteDisconnect}
use Rattle.sshc_auth.specs.declared.error.Error.{Error}
use Rattle.sshc_auth.specs.declared.ended.RemoteDisconnectInfo.{RemoteDisconnectInfo}
use Rattle.sshc_auth.specs.declared.error.Error.TheVariants as errors
use Rattle.sshc_auth.specs.declared.opening.Phase.{Phase}
use Rattle.sshc_auth.specs.declared.opening.Phase.TheVariants as phases
use Rattle.sshc_mux.specs.ChannelTable.{adjusted_at, is_established}
use Rattle.sshc_mux.specs.ChannelTable.Opens.{awaited, next_number, unsettled_at}
use Rattle.sshc_client_packets.specs.HostKeyProof.{Accepts}
use Rattle.sshc_client_packets.specs.declared.channel_open.Confirmation.{Confirmation}
use Rattle.sshc_client_packets.specs.declared.channel_open.Sender.{Sender}
use Rattle.sshc_client_packets.specs.declared.error.PacketError.{PacketError}
use Rattle.sshc_client_packets.specs.declared.peer_global.PeerGlobal.{PeerGlobal}
use Rattle.sshc_client_packets.specs.declared.peer_global.PeerGlobal.TheVariants as globals
use Rattle.sshc_client_packets.specs.declared.peer_request.PeerRequest.{PeerRequest}
use Rattle.sshc_client_packets.specs.declared.peer_request.PeerRequest.TheVariants as requests
use Rattle.sshc_client_packets.specs.ChannelPackets.{Refusal, RequestHead, channel_of, confirmation_of, data_of, extended_data_of, refusal_of, request_head_of, window_adjust_of}
use Rattle.sshc_client_packets.specs.PeerGlobals.{peer_global_of}
use Rattle.sshc_client_packets.specs.PeerOpens.{PeerOpen, peer_open_of, server_open_of}
use Rattle.sshc_client_packets.specs.PeerRequests.{peer_request_of}
use Rattle.sshc_client_packets.specs.Replies.{nothing_of}
use Rattle.sshc_client_table.specs.declared.reply_entry.ReplyKind.{ReplyKind}
use Rattle.sshc_client_table.specs.declared.reply_entry.ReplyKind.TheVariants as kinds
use Rattle.sshc_client_table.specs.declared.reply_entry.ReplyEntry.{ReplyEntry}
use Rattle.sshc_client_table.specs.declared.open_answer.OpenAnswer.{OpenAnswer}
use Rattle.sshc_client_table.specs.declared.open_answer.OpenAnswer.TheVariants as answers
use Rattle.sshc_client_table.specs.ListLaws.{onto-append}
use Rattle.sshc_client_table.specs.Moves.{Counts, Hears, Move, Resolves, Tells, onto}
use Rattle.sshc_client_table.specs.SessionState.{SessionState, exchanging, is_open, is_running, own_window}
use Rattle.sshc_client_table.specs.SessionRow.{Callback, Next, Opinions, SessionRow, asking, behind_moves, ends, established_row, goes, on_channel, opining, plain_row, refuses, reports, with_kept, with_read}
use Rattle.sshc_client_table.specs.SessionTable.{disconnect_row, heard, held_row, numbered_row, packet_row, payload_row, reason_row, session_row}
use Rattle.sshc_client_table.specs.SessionTable.Exchanges.{exchange_done_row, peer_kexinit_row}
use Rattle.sshc_client_table.specs.SessionTable.Opens.{channel_open_row, confirmed_row, failed_row, numbered_open_row, offered_row, open_confirmation_row, open_failure_row, served_row, serving_row, settled}
use Rattle.sshc_client_table.specs.SessionTable.Replies.{failure_for, request_failure_row, request_success_row, success_for, success_of}
use Rattle.sshc_client_table.specs.SessionTable.Requests.{asked_row as global_row, channel_request_row, global_request_row, if_wanted, requested_row}
use Rattle.sshc_client_table.specs.SessionTable.Streams.{channel_close_row, channel_data_row, channel_extended_data_row, channel_report_row, received_row, retargets, window_adjust_row}
use Rattle.sshc_client_table.specs.SessionTable.Timers.{are_too_many, inactivity_timer_row, keepalive_row, keepalive_timer_row}
use Rattle.sshc_client_table.specs.SessionTable.Users.{asked_row, channel_moves, extension_moves, forward_moves, forwarded_moves, global_moves, open_moves, program_moves, prove_moves, reply_moves, settled_by, terminal_moves, user_moves, user_row}
use Rattle.sshc_client_table.specs.KeptByMoves.{KeepsSession}
use Rattle.sshc_client_table.specs.PeerSays.{BytesCame, HappensOn, IsOpening, SaysBytes, SaysExtended, SaysGlobal, SaysGrant, SaysOnly, SaysOpen, SaysRequest}
use Rattle.sshc_client_table.specs.RowMoves.{Fits}
use Rattle.sshc_wire.specs.declared.channel_id.ChannelId.{ChannelId}
use Rattle.sshc_client_table.specs.RowMovesLaws.{fits_keeps}
use Rattle.sshc_client_table.specs.OpenCauses.{Fails, FirstIsBare, IsBare, IsBroken, IsOpenCause, OpenFails, RequestFails, adjustment, bytes, confirmation, disconnection, extended_bytes, failure, global, number_alone, opening, refusal, request, success}

-- ---- what the law says

-- why a row may refuse and end, and which moves it may make
pub record RowLaw : Type 1 where
  pub refusal : Error → Type 0
  pub end : Ended → Type 0
  pub fits : Move → Type 0

-- why an open session refuses an event, why it ends, and which moves the event's row makes
abbrev pub open_why : SessionState → Event → RowLaw
open_why s event = record {
  refusal = λ e. IsOpenCause s event e;
  end = λ e. IsEndCause s.opening event e;
  fits = λ m. Fits event m;
}

abbrev pub NextCaused : RowLaw → Next → Type 0
NextCaused P goes = Unit {0}
NextCaused P (ends e) = P.end e
NextCaused P (refuses e) = P.refusal e

abbrev pub AllKeep : List Move → Type 0
AllKeep moves = AllByRecursion KeepsSession moves

-- the row continues, or has its cause, and each of its moves is one that its event may bring, whatever a handler returns
pub record RowHolds (P : RowLaw) (row : SessionRow) : Type 0 where
  pub caused : NextCaused P row.next
  pub front : AllByRecursion P.fits row.front
  pub back : (answer : OpenAnswer) → AllByRecursion P.fits (row.back answer)

-- ---- parts of rows

plain_holds : (P : RowLaw) (moves : List Move) → AllByRecursion P.fits moves → RowHolds P (plain_row moves)
plain_holds P moves all = record { caused = tt; front = all; back = λ answer. tt }

two_fit : (F : Move → Type 0) (a b : List Move) → AllByRecursion F a → AllByRecursion F b → AllByRecursion F (a ++ b)
two_fit F [] b one other = other
two_fit F (m ∷ a) b one other = (one.0, two_fit F a b one.1 other)

behind_holds : (P : RowLaw) (moves : List Move) (row : SessionRow) → AllByRecursion P.fits moves → RowHolds P row → RowHolds P (behind_moves moves row)
behind_holds P moves row all holds = record { caused = holds.caused; front = two_fit P.fits moves row.front all holds.front; back = holds.back }

opining_holds : (P : RowLaw) (call : Option Callback) (row : SessionRow) → RowHolds P row → RowHolds P (opining call row)
opining_holds P call row holds = record { caused = holds.caused; front = holds.front; back = holds.back }

read_holds : {A : Type 0} (P : RowLaw) (r : Result A WireError) (on : A → SessionRow) → (Fails r → P.refusal errors.SshEncoding) → ((x : A) → r ≡ Ok x → RowHolds P (on x)) → RowHolds P (with_read r on)
read_holds P (Ok x) on broken each = each x refl
read_holds P (Err e) on broken each = record { caused = broken tt; front = tt; back = λ answer. tt }

kept_holds : {A : Type 0} (P : RowLaw) (r : Result A PacketError) (on : A → SessionRow) → (Fails r → P.refusal errors.SshEncoding) → ((x : A) → r ≡ Ok x → RowHolds P (on x)) → RowHolds P (with_kept r on)
kept_holds P (Ok x) on broken each = each x refl
kept_holds P (Err e) on broken each = record { caused = broken tt; front = tt; back = λ answer. tt }

established_holds : (P : RowLaw) (b : Bool) (row : SessionRow) → RowHolds P row → RowHolds P (established_row b row)
established_holds P true row holds = holds
established_holds P false row holds = plain_holds P [] tt

wanted_fit : (F : Move → Type 0) (b : Bool) (m : Move) → (b ≡ true → F m) → AllByRecursion F (if_wanted b m)
wanted_fit F true m fits = (fits refl, tt)
wanted_fit F false m fits = tt

reports_holds : (P : RowLaw) (front : List Move) (id : ℕ) (output : ChannelRecord) (back : List Move) → P.fits (Tells (on_channel id output)) → AllByRecursion P.fits front → AllByRecursion P.fits back → RowHolds P (reports front id output back)
unfolding asking
reports_holds P front id output back told all others = record { caused = tt; front = all; back = λ answer. (told, others) }

-- a part that can't be read breaks the packet; else what follows it may break it
part_holds : {A : Type 0} (P : RowLaw) (parts : List FieldKind) (r : Result (A × List ℕ) WireError) (on : A × List ℕ → SessionRow) → (BreaksBehind (λ rest. Breaks parts rest) (rest_of r) → P.refusal errors.SshEncoding) →
    ((x : A × List ℕ) → r ≡ Ok x → (Breaks parts x.1 → P.refusal errors.SshEncoding) → RowHolds P (on x)) → RowHolds P (with_read r on)
part_holds P parts (Ok x) on breaks each = each x refl breaks
part_holds P parts (Err e) on breaks each = record { caused = breaks tt; front = tt; back = λ answer. tt }

-- ---- packets

module _ (accepts : Accepts) (o : Opinions) (s : SessionState) (n : ℕ) (body : List ℕ) where
  abbrev packet : Event
  packet = events.Payload (n ∷ body)

  abbrev P : RowLaw
  P = open_why s packet

  -- 1
  reason_holds : (reason : Option Disconnect) (rest : List ℕ) → (Breaks (text ∷ text ∷ []) rest → P.refusal errors.SshEncoding) → (reason ≡ None → P.refusal errors.InvalidDisconnect) →
      ((info : RemoteDisconnectInfo) → reason ≡ Some info.reason_code → ReadsTexts info rest → P.end (RemoteDisconnect info)) → RowHolds P (reason_row reason rest)
  reason_holds None rest breaks invalid leaves = record { caused = invalid refl; front = tt; back = λ answer. tt }
  reason_holds (Some reason) rest breaks invalid leaves =
      part_holds P (text ∷ []) (text_at rest) _ breaks (λ message read breaks.
      part_holds P [] (text_at message.1) _ breaks (λ language read' breaks. record {
        caused = leaves (record { reason_code = reason; message = message.0; lang_tag = language.0 }) refl (message.1, language.1, read, read');
        front = tt;
        back = λ answer. tt;
      }))

  disconnect_holds : n ≡ DISCONNECT → RowHolds P (disconnect_row body)
  unfolding disconnect_row
  disconnect_holds is =
      part_holds P (text ∷ text ∷ []) (number_at w32 body) _ (λ broken. disconnection is broken) (λ code read breaks.
      reason_holds (disconnect_of code.0) code.1 breaks (λ none. (is, rw read none)) (λ info same texts. (is, (code.0, code.1, read, same, texts))))

  -- 80
  global_holds_so : (g : PeerGlobal) → SaysGlobal g packet → RowHolds P (global_row g)
  unfolding asking
  global_holds_so (globals.Keepalive want_reply) says = plain_holds P _ (wanted_fit P.fits want_reply _ (λ is. subst (λ (b : Bool). SaysGlobal (globals.Keepalive b) packet) is says))
  global_holds_so (globals.HostKeys keys) says = record { caused = tt; front = (tt, tt); back = λ answer. ((keys, says, refl), tt) }
  global_holds_so (globals.Unknown want_reply) says = plain_holds P _ (wanted_fit P.fits want_reply _ (λ is. subst (λ (b : Bool). SaysGlobal (globals.Unknown b) packet) is says))

  global_holds : n ≡ GLOBAL_REQUEST → RowHolds P (global_request_row body)
  unfolding global_request_row
  global_holds is = kept_holds P (peer_global_of body) _ (λ broken. global is broken) (λ g read. global_holds_so g (is, read))

  -- 81
  bare_first : (replies : List ReplyEntry) (first : ReplyEntry) (rest : List ReplyEntry) → replies ≡ first ∷ rest → IsBare first.kind → FirstIsBare replies
  bare_first replies first rest is bare = rw is bare

  asked_success : (first : ReplyEntry) (rest : List ReplyEntry) (kind : ReplyKind) → s.replies ≡ first ∷ rest → first.kind ≡ kind → n ≡ REQUEST_SUCCESS → RowHolds P (success_of accepts s.opening.session_id kind first.keys body)
  asked_success first rest kinds.Forward is same number_is = plain_holds P _ (inl number_is, tt)
  asked_success first rest kinds.Done is same number_is = read_holds P (nothing_of body) _ (λ broken. success number_is (bare_first s.replies first rest is (rw same tt)) broken) (λ u read. plain_holds P _ (inl number_is, tt))
  asked_success first rest kinds.Ping is same number_is = read_holds P (nothing_of body) _ (λ broken. success number_is (bare_first s.replies first rest is (rw same tt)) broken) (λ u read. plain_holds P _ (inl number_is, tt))
  asked_success first rest kinds.Keepalive is same number_is = read_holds P (nothing_of body) _ (λ broken. success number_is (bare_first s.replies first rest is (rw same tt)) broken) (λ u read. plain_holds P _ (inl number_is, tt))
  asked_success first rest kinds.NoMoreSessions is same number_is = read_holds P (nothing_of body) _ (λ broken. success number_is (bare_first s.replies first rest is (rw same tt)) broken) (λ u read. plain_holds P _ (inl number_is, tt))
  asked_success first rest kinds.Proof is same number_is = plain_holds P _ (inl number_is, tt)
  asked_success first rest kinds.Own is same number_is = plain_holds P _ (inl number_is, tt)

  success_holds_so : (replies : List ReplyEntry) → s.replies ≡ replies → n ≡ REQUEST_SUCCESS → RowHolds P (success_for accepts s.opening.session_id replies body)
  success_holds_so [] is number_is = plain_holds P [] tt
  success_holds_so (first ∷ rest) is number_is = asked_success first rest first.kind is refl number_is

  success_holds : n ≡ REQUEST_SUCCESS → RowHolds P (request_success_row accepts s body)
  unfolding request_success_row
  success_holds is = success_holds_so s.replies refl is

  -- 82
  failure_holds_so : (replies : List ReplyEntry) → n ≡ REQUEST_FAILURE → RowHolds P (failure_for replies)
  failure_holds_so [] number_is = plain_holds P [] tt
  failure_holds_so (first ∷ rest) number_is = plain_holds P _ (inr number_is, tt)

  failure_holds : n ≡ REQUEST_FAILURE → RowHolds P (request_failure_row s body)
  unfolding request_failure_row
  failure_holds is = read_holds P (nothing_of body) _ (λ broken. failure is broken) (λ u read. failure_holds_so s.replies is)

  -- 90
  settled_keep : (id : ℕ) (answer : OpenAnswer) → IsOpening packet → AllByRecursion P.fits (settled id answer)
  settled_keep id answers.Accept now = (inl now, (inl refl, tt))
  settled_keep id (answers.Reject reason) now = (inl now, tt)
  settled_keep id answers.Later now = tt

  serving_holds : (sender : Sender) (id : ℕ) (opened : ServerOpen) → SaysOpen sender opened packet → RowHolds P (serving_row sender id opened)
  serving_holds sender id opened says = record { caused = tt; front = ((opened, says), tt); back = λ answer. ((sender, says), settled_keep id answer (sender, opened, says)) }

  offered_holds : (takes_unknown : Bool) (sender : Sender) (id : ℕ) (kind : List ℕ) → SaysOpen sender Unknown packet → RowHolds P (offered_row takes_unknown sender id kind)
  offered_holds true sender id kind says = opining_holds P _ _ (serving_holds sender id Unknown says)
  offered_holds false sender id kind says = opining_holds P _ _ (plain_holds P _ ((Unknown, says), (inl (sender, Unknown, says), tt)))

  served_holds : (takes_unknown : Bool) (sender : Sender) (id : ℕ) (kind : List ℕ) (opened : ServerOpen) → SaysOpen sender opened packet → RowHolds P (served_row takes_unknown sender id kind opened)
  served_holds takes_unknown sender id kind Unknown says = offered_holds takes_unknown sender id kind says
  served_holds takes_unknown sender id kind opened says = serving_holds sender id opened says

  numbered_open_holds : (id : Option ℕ) (sender : Sender) (kind : List ℕ) (opened : ServerOpen) → SaysOpen sender opened packet → RowHolds P (numbered_open_row o id sender kind opened)
  numbered_open_holds None sender kind opened says = record { caused = tt; front = tt; back = λ answer. tt }
  numbered_open_holds (Some id) sender kind opened says = served_holds o.takes_unknown sender id kind opened says

  head_fails : (r : Result PeerOpen WireError) → Fails r → OpenFails r
  head_fails (Ok head) never = absurd never
  head_fails (Err e) broken = tt

  open_holds : n ≡ CHANNEL_OPEN → RowHolds P (channel_open_row o s body)
  unfolding channel_open_row
  open_holds is =
      read_holds P (peer_open_of body) _ (λ broken. opening is (head_fails (peer_open_of body) broken)) (λ head read.
      kept_holds P (server_open_of head.kind head.rest) _ (λ broken. opening is (rw read broken)) (λ opened read'.
      numbered_open_holds (next_number s.table) head.sender head.kind opened (is, (head, read, refl, read'))))

  -- 91
  confirmed_holds : (waits : Option (Option Ticket)) (c : Confirmation) → awaited c.recipient s.table ≡ waits → confirmation_of body ≡ Ok c → n ≡ CHANNEL_OPEN_CONFIRMATION → RowHolds P (confirmed_row waits c)
  confirmed_holds None c none read is = record { caused = inr (is, rw read none); front = tt; back = λ answer. tt }
  confirmed_holds (Some ticket) c waits read is = reports_holds P _ _ _ _ (c, (is, read), refl, refl, refl) ((is, read), tt) (inl refl, tt)

  confirmation_holds : n ≡ CHANNEL_OPEN_CONFIRMATION → RowHolds P (open_confirmation_row s body)
  unfolding open_confirmation_row
  confirmation_holds is = read_holds P (confirmation_of body) _ (λ broken. confirmation is broken) (λ c read. confirmed_holds (awaited c.recipient s.table) c refl read is)

  -- 92
  failed_holds : (waits : Option (Option Ticket)) (r : Refusal) → refusal_of body ≡ Ok r → n ≡ CHANNEL_OPEN_FAILURE → RowHolds P (failed_row waits r)
  failed_holds None r read is = plain_holds P [] tt
  failed_holds (Some ticket) r read is = reports_holds P _ _ _ _ (r, (is, read), refl, refl, refl, refl) ((r, (is, read), refl), tt) tt

  refusal_holds : n ≡ CHANNEL_OPEN_FAILURE → RowHolds P (open_failure_row s body)
  unfolding open_failure_row
  refusal_holds is = read_holds P (refusal_of body) _ (λ broken. refusal is broken) (λ r read. failed_holds (awaited r.id.0 s.table) r read is)

  -- 93 to 97, 99 and 100
  adjust_holds : n ≡ CHANNEL_WINDOW_ADJUST → RowHolds P (window_adjust_row s body)
  unfolding window_adjust_row
  adjust_holds is = read_holds P (window_adjust_of body) _ (λ broken. adjustment is broken) (λ a read. let says : SaysGrant a.id.0 a.bytes_to_add packet = (is, (a, read, refl, refl)) in established_holds P (is_established a.id.0 s.table) _ (reports_holds P _ _ _ _ (a.bytes_to_add, says) (inr says, tt) tt))

  retargets_keep : (id len : ℕ) → AllByRecursion P.fits (retargets o s id len)
  retargets_keep id len = by_cases (AllByRecursion P.fits) (adjusted_at id len (own_window s) s.table && nat_lt 0 o.window_target) _ _ (tt, tt) tt

  received_holds : (id len : ℕ) (output : ChannelRecord) → HappensOn id output packet → BytesCame id len packet → RowHolds P (received_row o s id len output)
  received_holds id len output told came = established_holds P (is_established id s.table) _ (opining_holds P _ _ (reports_holds P _ _ _ _ told (came, retargets_keep id len) tt))

  data_holds : n ≡ CHANNEL_DATA → RowHolds P (channel_data_row o s body)
  unfolding channel_data_row
  data_holds is = read_holds P (data_of body) _ (λ broken. bytes is broken) (λ d read. let says : SaysBytes d.id.0 d.body packet = (is, (d, read, refl, refl)) in received_holds d.id.0 (length d.body) (happened.Data d.body) says (inl (d.body, says, refl)))

  extended_holds : n ≡ CHANNEL_EXTENDED_DATA → RowHolds P (channel_extended_data_row o s body)
  unfolding channel_extended_data_row
  extended_holds is = read_holds P (extended_data_of body) _ (λ broken. extended_bytes is broken) (λ d read. let says : SaysExtended d.id.0 d.ext d.body packet = (is, (d, read, refl, refl, refl)) in received_holds d.id.0 (length d.body) (happened.ExtendedData d.ext d.body) says (inr (d.ext, d.body, says, refl)))

  report_holds : (output : ChannelRecord) → ((id : ChannelId) → channel_of body ≡ Ok id → HappensOn id.0 output packet) → (Fails (channel_of body) → IsBroken s n body) → RowHolds P (channel_report_row s output body)
  unfolding channel_report_row
  report_holds output told breaks = read_holds P (channel_of body) _ breaks (λ id read. established_holds P (is_established id.0 s.table) _ (reports_holds P _ _ _ _ (told id read) tt tt))

  close_holds : n ≡ CHANNEL_CLOSE → RowHolds P (channel_close_row s body)
  unfolding channel_close_row
  close_holds is = read_holds P (channel_of body) _ (λ broken. number_alone (inr (inl is)) broken) (λ id read. let says : SaysOnly CHANNEL_CLOSE id.0 packet = (is, (id, read, refl)) in established_holds P (is_established id.0 s.table) _ (reports_holds P _ _ _ _ says (says, tt) tt))

  -- 98
  requested_holds : (id : ℕ) (asked : PeerRequest) → SaysRequest id asked packet → RowHolds P (requested_row id asked)
  requested_holds id (requests.XonXoff can_do) says = reports_holds P _ _ _ _ says tt tt
  requested_holds id (requests.ExitStatus status) says = reports_holds P _ _ _ _ says tt tt
  requested_holds id (requests.ExitSignal signal dumped message language) says = reports_holds P _ _ _ _ says tt tt
  requested_holds id (requests.Keepalive want_reply) says = plain_holds P _ (wanted_fit P.fits want_reply _ (λ is. subst (λ (b : Bool). SaysRequest id (requests.Keepalive b) packet) is says))
  requested_holds id (requests.Unknown want_reply) says = plain_holds P _ (wanted_fit P.fits want_reply _ (λ is. subst (λ (b : Bool). SaysRequest id (requests.Unknown b) packet) is says))

  request_fails : (r : Result RequestHead WireError) → Fails r → RequestFails r
  request_fails (Ok head) never = absurd never
  request_fails (Err e) broken = tt

  request_holds : n ≡ CHANNEL_REQUEST → RowHolds P (channel_request_row s body)
  unfolding channel_request_row
  request_holds is =
      read_holds P (request_head_of body) _ (λ broken. request is (request_fails (request_head_of body) broken)) (λ head read.
      established_holds P (is_established head.id.0 s.table) _
      (kept_holds P (peer_request_of head.name head.rest) _ (λ broken. request is (rw read broken)) (λ asked read'. requested_holds head.id.0 asked (is, (head, read, refl, read')))))

  -- by the number
  numbered_holds : RowHolds P (numbered_row accepts o s n body)
  unfolding numbered_row
  numbered_holds =
      by_test (RowHolds P) (n == GLOBAL_REQUEST) _ _ (λ is. global_holds (same_number n GLOBAL_REQUEST is)) (λ other.
      by_test (RowHolds P) (n == REQUEST_SUCCESS) _ _ (λ is. success_holds (same_number n REQUEST_SUCCESS is)) (λ other.
      by_test (RowHolds P) (n == REQUEST_FAILURE) _ _ (λ is. failure_holds (same_number n REQUEST_FAILURE is)) (λ other.
      by_test (RowHolds P) (n == CHANNEL_OPEN) _ _ (λ is. open_holds (same_number n CHANNEL_OPEN is)) (λ other.
      by_test (RowHolds P) (n == CHANNEL_OPEN_CONFIRMATION) _ _ (λ is. confirmation_holds (same_number n CHANNEL_OPEN_CONFIRMATION is)) (λ other.
      by_test (RowHolds P) (n == CHANNEL_OPEN_FAILURE) _ _ (λ is. refusal_holds (same_number n CHANNEL_OPEN_FAILURE is)) (λ other.
      by_test (RowHolds P) (n == CHANNEL_WINDOW_ADJUST) _ _ (λ is. adjust_holds (same_number n CHANNEL_WINDOW_ADJUST is)) (λ other.
      by_test (RowHolds P) (n == CHANNEL_DATA) _ _ (λ is. data_holds (same_number n CHANNEL_DATA is)) (λ other.
      by_test (RowHolds P) (n == CHANNEL_EXTENDED_DATA) _ _ (λ is. extended_holds (same_number n CHANNEL_EXTENDED_DATA is)) (λ other.
      by_test (RowHolds P) (n == CHANNEL_EOF) _ _ (λ is. report_holds happened.Eof (λ id read. (same_number n CHANNEL_EOF is, (id, read, refl))) (λ broken. number_alone (inl (same_number n CHANNEL_EOF is)) broken)) (λ other.
      by_test (RowHolds P) (n == CHANNEL_CLOSE) _ _ (λ is. close_holds (same_number n CHANNEL_CLOSE is)) (λ other.
      by_test (RowHolds P) (n == CHANNEL_REQUEST) _ _ (λ is. request_holds (same_number n CHANNEL_REQUEST is)) (λ other.
      by_test (RowHolds P) (n == CHANNEL_SUCCESS) _ _ (λ is. report_holds happened.Success (λ id read. (same_number n CHANNEL_SUCCESS is, (id, read, refl))) (λ broken. number_alone (inr (inr (inl (same_number n CHANNEL_SUCCESS is)))) broken)) (λ other.
      by_test (RowHolds P) (n == CHANNEL_FAILURE) _ _ (λ is. report_holds happened.Failure (λ id read. (same_number n CHANNEL_FAILURE is, (id, read, refl))) (λ broken. number_alone (inr (inr (inr (same_number n CHANNEL_FAILURE is)))) broken)) (λ other.
      plain_holds P [] tt))))))))))))))

  -- while an exchange runs
  from_fifty : waits_for_exchange n ≡ true → 50 ≤ n
  from_fifty is = grind (arith, nat_tests)

  too_much : is_too_much s.opening (length (n ∷ body)) ≡ true → 2 * s.opening.settings.window_size < min (s.opening.counted + length (n ∷ body)) (2 ^ 64 - 1)
  too_much is = grind (arith, nat_tests)

  held_holds : (flag : ExchangeFlag) → s.opening.flag ≡ flag → waits_for_exchange n ≡ true → RowHolds P (held_row flag s (length (n ∷ body)) (numbered_row accepts o s n body))
  held_holds flags.Idle is waits = numbered_holds
  held_holds flags.Ours is waits =
      by_test (RowHolds P) (is_too_much s.opening (length (n ∷ body))) _ _ (λ much. record { caused = (is, too_much much); front = tt; back = λ answer. tt })
      (λ few. behind_holds P (Counts (length (n ∷ body)) ∷ []) (numbered_row accepts o s n body) (tt, tt) numbered_holds)
  held_holds flags.Peer is waits = record { caused = inl (is, from_fifty waits); front = tt; back = λ answer. tt }

  packet_holds : RowHolds P (packet_row accepts o s (length (n ∷ body)) n body)
  packet_holds =
      by_test (RowHolds P) (is_ignored n) _ _ (λ ignored. plain_holds P [] tt) (λ heeded.
      by_test (RowHolds P) (waits_for_exchange n) _ _ (λ waits. held_holds s.opening.flag refl waits) (λ goes_on. numbered_holds))

  some_packet_holds : RowHolds P (payload_row accepts o s (n ∷ body))
  unfolding payload_row
  some_packet_holds =
      by_test (RowHolds P) (n == DISCONNECT) _ _ (λ is. disconnect_holds (same_number n DISCONNECT is)) (λ other.
      behind_holds P (heard n) (packet_row accepts o s (length (n ∷ body)) n body) (by_cases (AllByRecursion P.fits) (n == GLOBAL_REQUEST) [] (Hears ∷ []) tt (tt, tt)) packet_holds)

payload_holds : (accepts : Accepts) (o : Opinions) (s : SessionState) (packet : List ℕ) → RowHolds (open_why s (events.Payload packet)) (payload_row accepts o s packet)
unfolding payload_row
payload_holds accepts o s [] = plain_holds (open_why s (events.Payload [])) [] tt
payload_holds accepts o s (n ∷ body) = some_packet_holds accepts o s n body

-- ---- exchanges and timers

kexinit_holds : (s : SessionState) (flag : ExchangeFlag) → s.opening.flag ≡ flag → RowHolds (open_why s events.PeerKexinit) (peer_kexinit_row flag)
kexinit_holds s flags.Idle is = plain_holds (open_why s events.PeerKexinit) _ (tt, tt)
kexinit_holds s flags.Ours is = plain_holds (open_why s events.PeerKexinit) _ (tt, tt)
kexinit_holds s flags.Peer is = record { caused = is; front = tt; back = λ answer. tt }

exchange_holds : (s : SessionState) (x : ExchangeResult) (flag : ExchangeFlag) (same : Bool) → s.opening.flag ≡ flag → has_kept_key s.opening x ≡ same → RowHolds (open_why s (events.ExchangeDone x)) (exchange_done_row flag same x)
unfolding asking
exchange_holds s x flags.Idle same is kept = record { caused = λ peer. let clash : flags.Idle ≡ flags.Peer = sym is ∙ peer in absurd cc; front = tt; back = λ answer. tt }
exchange_holds s x flags.Ours same is kept = record { caused = λ peer. let clash : flags.Ours ≡ flags.Peer = sym is ∙ peer in absurd cc; front = tt; back = λ answer. tt }
exchange_holds s x flags.Peer true is kept = record { caused = tt; front = tt; back = λ answer. (refl, (tt, tt)) }
exchange_holds s x flags.Peer false is kept = record { caused = (is, not_kept s.opening x kept); front = tt; back = λ answer. tt }

not_none : (most count : ℕ) → are_too_many most count ≡ true → most ≢ 0
not_none zero count is = absurd cc
not_none (suc most) count is = λ none. absurd cc

passed_by : (b : Bool) (most count : ℕ) → (b && nat_lt most count) ≡ true → most < count
passed_by true most count is = grind (arith, nat_tests)
passed_by false most count is = absurd cc

no_bound : (most count : ℕ) → are_too_many most count ≡ true → (most ≢ 0) × (most < count)
no_bound most count is = (not_none most count is, passed_by (not (most == 0)) most count is)

keepalive_holds : (s : SessionState) (interval : Option ℕ) → s.settings.keepalive_interval ≡ interval → RowHolds (open_why s events.KeepaliveTimer) (keepalive_row interval s)
keepalive_holds s None is = plain_holds (open_why s events.KeepaliveTimer) [] tt
keepalive_holds s (Some interval) is =
    by_test (RowHolds (open_why s events.KeepaliveTimer)) (are_too_many s.settings.keepalive_max (min (s.keepalives + 1) (2 ^ 64 - 1))) _ _
    (λ many. let so = no_bound s.settings.keepalive_max (min (s.keepalives + 1) (2 ^ 64 - 1)) many in
    record { caused = (refl, record { set = ap is_some is; bound = so.0; passed = so.1 }); front = (tt, tt); back = λ answer. tt })
    (λ few. plain_holds (open_why s events.KeepaliveTimer) _ (tt, (tt, tt)))

inactivity_holds : (s : SessionState) → RowHolds (open_why s events.InactivityTimer) (inactivity_timer_row s)
inactivity_holds s =
    by_test (RowHolds (open_why s events.InactivityTimer)) s.opening.settings.inactivity _ _ (λ set. record { caused = (refl, set); front = tt; back = λ answer. tt })
    (λ none. plain_holds (open_why s events.InactivityTimer) [] tt)

-- ---- users

abbrev AllFit : Event → List Move → Type 0
AllFit event moves = AllByRecursion (λ m. Fits event m) moves

program_keep : (event : Event) (id : ℕ) (msg : ChannelMsg) → AllFit event (program_moves id msg)
unfolding program_moves
program_keep event id (msgs.SetEnv want_reply name value) = (tt, tt)
program_keep event id (msgs.RequestShell want_reply) = (tt, tt)
program_keep event id (msgs.Exec want_reply command) = (tt, tt)
program_keep event id (msgs.Signal signal) = (tt, tt)
program_keep event id (msgs.RequestSubsystem want_reply name) = (tt, tt)
program_keep event id msg = tt

forwarded_keep : (event : Event) (id : ℕ) (msg : ChannelMsg) → AllFit event (forwarded_moves id msg)
unfolding forwarded_moves
forwarded_keep event id (msgs.RequestX11 want_reply single protocol cookie screen) = (tt, tt)
forwarded_keep event id (msgs.AgentForward want_reply) = (tt, tt)
forwarded_keep event id msg = program_keep event id msg

terminal_keep : (event : Event) (id : ℕ) (msg : ChannelMsg) → AllFit event (terminal_moves id msg)
unfolding terminal_moves
terminal_keep event id (msgs.RequestPty want_reply term columns rows width height modes) = (tt, tt)
terminal_keep event id (msgs.WindowChange columns rows width height) = (tt, tt)
terminal_keep event id msg = forwarded_keep event id msg

channel_keep : (event : Event) (id : ℕ) (msg : ChannelMsg) → AllFit event (channel_moves id msg)
unfolding channel_moves
channel_keep event id (msgs.Data body) = (tt, tt)
channel_keep event id (msgs.ExtendedData ext body) = (tt, tt)
channel_keep event id msgs.Eof = (tt, tt)
channel_keep event id msgs.Close = (tt, tt)
channel_keep event id msg = terminal_keep event id msg

settled_by_keep : (own : ChannelId) (result : Result (Unit {0}) ChannelOpenFailure) → AllFit (events.ServerChannelOpenReply own result) (settled_by own.0 result)
settled_by_keep own (Ok u) = (inr refl, (inl refl, tt))
settled_by_keep own (Err reason) = (inr (refl, refl), tt)

reply_keep : (s : SessionState) (own : ChannelId) (result : Result (Unit {0}) ChannelOpenFailure) → AllFit (events.ServerChannelOpenReply own result) (reply_moves s own.0 result)
reply_keep s own result = by_cases (AllByRecursion (λ m. Fits (events.ServerChannelOpenReply own result) m)) (is_some (unsettled_at own.0 s.table)) _ _ (settled_by_keep own result) tt

prove_keep : (ticket : Ticket) (keys : List (Key × List ℕ)) → AllFit (events.HostKeysProve ticket keys) (prove_moves ticket keys)
prove_keep ticket [] = ((refl, refl), tt)
prove_keep ticket (key ∷ keys) = (tt, tt)

extension_keep : (seen : Bool) (ticket : Ticket) (name : List ℕ) → AllFit (events.AwaitExtensionInfo ticket name) (extension_moves seen ticket)
extension_keep true ticket name = ((refl, inl refl), tt)
extension_keep false ticket name = ((refl, inr refl), tt)

algs_keep : (ticket : Ticket) (names : Option (List (List ℕ))) → AllFit (events.GetServerSigAlgs ticket) (Resolves ticket (sig_algs_answer names) ∷ [])
algs_keep ticket None = ((refl, false, [], refl), tt)
algs_keep ticket (Some names) = ((refl, true, names, refl), tt)

global_keep : (event : Event) → AllFit event (global_moves event)
unfolding global_moves
global_keep (events.Keepalive want_reply) = (tt, tt)
global_keep (events.Ping ticket) = (tt, tt)
global_keep (events.NoMoreSessions want_reply) = (tt, tt)
global_keep (events.SendGlobalRequest ticket name body) = (tt, tt)
global_keep event = tt

forward_keep : (event : Event) → AllFit event (forward_moves event)
unfolding forward_moves
forward_keep (events.TcpIpForward ticket address port) = (tt, tt)
forward_keep (events.CancelTcpIpForward ticket address port) = (tt, tt)
forward_keep (events.StreamLocalForward ticket path) = (tt, tt)
forward_keep (events.CancelStreamLocalForward ticket path) = (tt, tt)
forward_keep event = global_keep event

opens_keep : (event : Event) → AllFit event (open_moves event)
unfolding open_moves
opens_keep (events.ChannelOpenSession ticket) = (tt, tt)
opens_keep (events.ChannelOpenX11 ticket originator port) = (tt, tt)
opens_keep (events.ChannelOpenDirectTcpIp ticket host port originator originator_port) = (tt, tt)
opens_keep (events.ChannelOpenDirectStreamLocal ticket path) = (tt, tt)
opens_keep event = forward_keep event

users_keep : (s : SessionState) (event : Event) → AllFit event (user_moves s event)
unfolding user_moves
users_keep s (events.Authenticate ticket user method) = ((refl, refl), tt)
users_keep s (events.Close id) = (tt, tt)
users_keep s (events.Channel id msg) = channel_keep (events.Channel id msg) id.0 msg
users_keep s (events.ServerChannelOpenReply id result) = reply_keep s id result
users_keep s events.Rekey = (tt, tt)
users_keep s (events.AwaitExtensionInfo ticket name) = extension_keep (is_seen s.opening.seen name) ticket name
users_keep s (events.GetServerSigAlgs ticket) = algs_keep ticket s.opening.sig_algs
users_keep s (events.HostKeysProve ticket keys) = prove_keep ticket keys
users_keep s event = opens_keep event

-- no answer is awaited in an open session
awaits_none : (phase : Phase) → is_open phase ≡ true → is_awaiting phase ≡ false
awaits_none phases.Open is = refl
awaits_none phase is = absurd cc

asked_holds : (s : SessionState) (event : Event) → is_open s.opening.phase ≡ true → RowHolds (open_why s event) (asked_row s event)
unfolding asked_row
asked_holds s (events.Disconnect reason description language) is = record { caused = tt; front = (tt, tt); back = λ answer. tt }
asked_holds s events.Gone is = record { caused = (refl, awaits_none s.opening.phase is); front = tt; back = λ answer. tt }
asked_holds s event is = plain_holds (open_why s event) (user_moves s event) (users_keep s event)

not_idle : (flag : ExchangeFlag) → is_running flag ≡ true → flag ≢ flags.Idle
not_idle flags.Idle is = absurd cc
not_idle flags.Ours is = λ same. absurd cc
not_idle flags.Peer is = λ same. absurd cc

user_holds : (s : SessionState) (event : Event) → is_open s.opening.phase ≡ true → (s.opening.flag ≢ flags.Idle → IsEarly s.opening.flag event) → RowHolds (open_why s event) (user_row s event)
unfolding user_row
user_holds s event is early =
    by_test (RowHolds (open_why s event)) (exchanging s) _ _ (λ running. record { caused = early (not_idle s.opening.flag running); front = tt; back = λ answer. tt })
    (λ idle. asked_holds s event is)

-- ---- any event

-- this holds of each row of an open session
pub session_holds : (accepts : Accepts) (o : Opinions) (s : SessionState) (event : Event) → is_open s.opening.phase ≡ true → RowHolds (open_why s event) (session_row accepts o s event)
unfolding session_row keepalive_timer_row
session_holds accepts o s events.PeerKexinit is = kexinit_holds s s.opening.flag refl
session_holds accepts o s (events.ExchangeDone x) is = exchange_holds s x s.opening.flag (has_kept_key s.opening x) refl refl
session_holds accepts o s (events.Payload packet) is = payload_holds accepts o s packet
session_holds accepts o s events.TransportFailed is = record { caused = refl; front = tt; back = λ answer. tt }
session_holds accepts o s events.RekeyLimit is = plain_holds (open_why s events.RekeyLimit) _ (tt, tt)
session_holds accepts o s events.KeepaliveTimer is = keepalive_holds s s.settings.keepalive_interval refl
session_holds accepts o s events.InactivityTimer is = inactivity_holds s
session_holds accepts o s event is = user_holds s event is (λ running. running)

-- each of all the moves of a row, with those after one answer of a handler, is one that the event may bring
pub all_fit : (s : SessionState) (event : Event) (row : SessionRow) (answer : OpenAnswer) → RowHolds (open_why s event) row → AllByRecursion (λ m. Fits event m) (onto row.front (row.back answer))
all_fit s event row answer holds =
    subst (λ (moves : List Move). AllByRecursion (λ m. Fits event m) moves) (sym (onto-append row.front (row.back answer)))
    (two_fit (λ m. Fits event m) row.front (row.back answer) holds.front (holds.back answer))

fits_all_keep : (event : Event) (moves : List Move) → AllByRecursion (λ m. Fits event m) moves → AllKeep moves
fits_all_keep event [] all = tt
fits_all_keep event (m ∷ moves) (fits, all) = (fits_keeps event m fits, fits_all_keep event moves all)

-- so none of them leaves or stops the session, or reports a record of an agent
pub all_keep : (s : SessionState) (event : Event) (row : SessionRow) (answer : OpenAnswer) → RowHolds (open_why s event) row → AllKeep (onto row.front (row.back answer))
all_keep s event row answer holds = fits_all_keep event (onto row.front (row.back answer)) (all_fit s event row answer holds)
