-- What a step reports, replies and settles, and what it does to the channels, is what the peer's packet or the user's
-- answer says.
use Rattle.std.proofs.Common.{◌≡◌, ◌≢◌, ℕ, Bool, true, false, List, [], ◌∷◌, ◌++◌, eqb, if◌then◌else◌, Option, Some, None, refl, ap, ◌∙◌, arith}
use Rattle.std.specs.Prelude.{◌==◌}
use Rattle.std.proofs.lemmas.Bool.Decides.{nat_tests}
use Rattle.std.specs.List.{AllByRecursion}
use Rattle.sshc_wire.specs.MessageNumbers.{REQUEST_SUCCESS, REQUEST_FAILURE, CHANNEL_OPEN_CONFIRMATION, CHANNEL_OPEN_FAILURE, CHANNEL_SUCCESS, CHANNEL_FAILURE}
use Rattle.sshc_wire.specs.Outgoing.{listed}
use Rattle.sshc_wire.specs.declared.channel_open_failure.ChannelOpenFailure.{ChannelOpenFailure}
use Rattle.sshc_wire.specs.declared.disconnect.Disconnect.{Disconnect}
use Rattle.sshc_wire.specs.declared.record.Record.{Record}
use Rattle.sshc_wire.specs.declared.record.Record.TheVariants as output
use Rattle.sshc_wire.specs.declared.record.Record.TheVariants.{Payload, Resolved}
use Rattle.sshc_wire.specs.declared.resolution.Resolution.{Resolution}
use Rattle.sshc_wire.specs.declared.resolution.Resolution.TheVariants.{ChannelOpened, ChannelOpenFailed, Denied, Dropped, ExtInfoSeen, HostKeysProved, SigAlgs}
use Rattle.sshc_wire.specs.declared.ticket.Ticket.{Ticket}
use Rattle.sshc_auth_event.specs.declared.event.Event.{Event}
use Rattle.sshc_transport.specs.declared.exchange.ExchangeFlag.{ExchangeFlag}
use Rattle.sshc_transport.specs.declared.exchange.ExchangeFlag.TheVariants.{Idle}
use Rattle.sshc_auth.specs.Row.{resolved}
use Rattle.sshc_auth_request.specs.RequestTexts.{disconnect}
use Rattle.sshc_mux.specs.declared.chunk.Stream.TheVariants as streams
use Rattle.sshc_mux.specs.ChannelTable.{ChannelPacket, records_of}
use Rattle.sshc_mux.specs.ChannelTable.Opens.{awaited}
use Rattle.sshc_mux.specs.ChannelAccount.{Call}
use Rattle.sshc_mux.specs.Packets.{Packet, Piece, Eof, Close, Adjust, packet_text}
use Rattle.sshc_client_packets.specs.declared.channel_open.Confirmation.{Confirmation}
use Rattle.sshc_client_packets.specs.declared.channel_open.Sender.{Sender}
use Rattle.sshc_client_packets.specs.ChannelOpens.{ChannelOpen, channel_open_text, confirmation_text, open_failure_text}
use Rattle.sshc_client_packets.specs.ChannelRequests.{ChannelRequest, channel_request_text}
use Rattle.sshc_client_packets.specs.GlobalRequests.{GlobalRequest, global_request_text}
use Rattle.sshc_client_packets.specs.Messages.{Message, message_text}
use Rattle.sshc_client_packets.specs.Messages as messages
use Rattle.sshc_client_table.specs.declared.reply_entry.ReplyEntry.{ReplyEntry}
use Rattle.sshc_client_table.specs.Messages.{request_of, wants_answer}
use Rattle.sshc_client_table.specs.Moves as m
use Rattle.sshc_client_table.specs.Moves.{Deed, Move, after, calls_in, calls_of, deed, deed_of, did, done, done_if, may_go, open_answer, or_none}
use Rattle.sshc_client_table.specs.PeerSays.{MayAccept, MayCall, MayReject, Replies, RepliesOn, Reports}
use Rattle.sshc_client_table.specs.SessionState.{SessionState}
use Rattle.sshc_client_table.specs.StepLaws.{IsBrought, MakesCalls}
use Rattle.sshc_client_table.proofs.AccountLemmas.{accounted}
use Rattle.sshc_client_table.proofs.StepMoves.{AllFit, StepFits, added_in, all_added}

-- ---- packets

pub not_same : (n k : ℕ) → (n == k) ≡ false → n ≢ k
not_same n k other = grind (arith, nat_tests)

module _ (event : Event) where
  -- a packet of another number than those that reply and settle
  abbrev HasOther : List ℕ → Type 0
  HasOther [] = ⊥
  HasOther (n ∷ body) =
      ((n == REQUEST_SUCCESS) ≡ false) × ((n == REQUEST_FAILURE) ≡ false) × ((n == CHANNEL_SUCCESS) ≡ false) × ((n == CHANNEL_FAILURE) ≡ false)
      × ((n == CHANNEL_OPEN_CONFIRMATION) ≡ false) × ((n == CHANNEL_OPEN_FAILURE) ≡ false)

  other_number : (packet : List ℕ) → HasOther packet → IsBrought event (Payload packet)
  other_number [] never = absurd never
  other_number (n ∷ body) (no81, no82, no99, no100, no91, no92) = (
    (λ is. absurd (not_same n REQUEST_SUCCESS no81 is)),
    (λ is. absurd (not_same n REQUEST_FAILURE no82 is)),
    (λ is. absurd (not_same n CHANNEL_SUCCESS no99 is)),
    (λ is. absurd (not_same n CHANNEL_FAILURE no100 is)),
    (λ is. absurd (not_same n CHANNEL_OPEN_CONFIRMATION no91 is)),
    (λ is. absurd (not_same n CHANNEL_OPEN_FAILURE no92 is)),
  )

  ask_brought : (want_reply : Bool) (request : GlobalRequest) → IsBrought event (Payload (message_text (messages.Requests want_reply request)))
  unfolding global_request_text
  ask_brought want_reply request = other_number (global_request_text want_reply request) (refl, refl, refl, refl, refl, refl)

  open_brought : (asked : ChannelOpen) (sender : Sender) → IsBrought event (Payload (message_text (messages.Opens asked sender)))
  unfolding channel_open_text
  open_brought asked sender = other_number (channel_open_text asked sender) (refl, refl, refl, refl, refl, refl)

  request_brought : (recipient : ℕ) (request : ChannelRequest) → IsBrought event (Payload (message_text (messages.RequestsOn recipient request)))
  unfolding channel_request_text
  request_brought recipient request = other_number (channel_request_text recipient request) (refl, refl, refl, refl, refl, refl)

  leave_brought : (reason : Disconnect) (description language : List ℕ) → IsBrought event (Payload (disconnect reason description language))
  unfolding disconnect
  leave_brought reason description language = other_number (disconnect reason description language) (refl, refl, refl, refl, refl, refl)

  accept_brought : (id : ℕ) (c : Confirmation) → MayAccept id event → IsBrought event (Payload (message_text (messages.Confirms c)))
  unfolding confirmation_text
  accept_brought id c may = (
    (λ is. absurd (not_same CHANNEL_OPEN_CONFIRMATION REQUEST_SUCCESS refl is)),
    (λ is. absurd (not_same CHANNEL_OPEN_CONFIRMATION REQUEST_FAILURE refl is)),
    (λ is. absurd (not_same CHANNEL_OPEN_CONFIRMATION CHANNEL_SUCCESS refl is)),
    (λ is. absurd (not_same CHANNEL_OPEN_CONFIRMATION CHANNEL_FAILURE refl is)),
    (λ is. (id, may)),
    (λ is. absurd (not_same CHANNEL_OPEN_CONFIRMATION CHANNEL_OPEN_FAILURE refl is)),
  )

  reject_brought : (id recipient : ℕ) (reason : ChannelOpenFailure) → MayReject id reason event → IsBrought event (Payload (message_text (messages.Refuses recipient reason)))
  unfolding open_failure_text
  reject_brought id recipient reason may = (
    (λ is. absurd (not_same CHANNEL_OPEN_FAILURE REQUEST_SUCCESS refl is)),
    (λ is. absurd (not_same CHANNEL_OPEN_FAILURE REQUEST_FAILURE refl is)),
    (λ is. absurd (not_same CHANNEL_OPEN_FAILURE CHANNEL_SUCCESS refl is)),
    (λ is. absurd (not_same CHANNEL_OPEN_FAILURE CHANNEL_FAILURE refl is)),
    (λ is. absurd (not_same CHANNEL_OPEN_FAILURE CHANNEL_OPEN_CONFIRMATION refl is)),
    (λ is. (id, reason, may)),
  )

  reply_brought : (done : Bool) → Replies done event → IsBrought event (Payload (message_text (m.answer_to_all done)))
  reply_brought true replies = (
    (λ is. replies),
    (λ is. absurd (not_same REQUEST_SUCCESS REQUEST_FAILURE refl is)),
    (λ is. absurd (not_same REQUEST_SUCCESS CHANNEL_SUCCESS refl is)),
    (λ is. absurd (not_same REQUEST_SUCCESS CHANNEL_FAILURE refl is)),
    (λ is. absurd (not_same REQUEST_SUCCESS CHANNEL_OPEN_CONFIRMATION refl is)),
    (λ is. absurd (not_same REQUEST_SUCCESS CHANNEL_OPEN_FAILURE refl is)),
  )
  reply_brought false replies = (
    (λ is. absurd (not_same REQUEST_FAILURE REQUEST_SUCCESS refl is)),
    (λ is. replies),
    (λ is. absurd (not_same REQUEST_FAILURE CHANNEL_SUCCESS refl is)),
    (λ is. absurd (not_same REQUEST_FAILURE CHANNEL_FAILURE refl is)),
    (λ is. absurd (not_same REQUEST_FAILURE CHANNEL_OPEN_CONFIRMATION refl is)),
    (λ is. absurd (not_same REQUEST_FAILURE CHANNEL_OPEN_FAILURE refl is)),
  )

  reply_on_brought : (id : ℕ) (done : Bool) (recipient : ℕ) → RepliesOn id done event → IsBrought event (Payload (message_text (m.answer_on done recipient)))
  reply_on_brought id true recipient replies = (
    (λ is. absurd (not_same CHANNEL_SUCCESS REQUEST_SUCCESS refl is)),
    (λ is. absurd (not_same CHANNEL_SUCCESS REQUEST_FAILURE refl is)),
    (λ is. (id, replies)),
    (λ is. absurd (not_same CHANNEL_SUCCESS CHANNEL_FAILURE refl is)),
    (λ is. absurd (not_same CHANNEL_SUCCESS CHANNEL_OPEN_CONFIRMATION refl is)),
    (λ is. absurd (not_same CHANNEL_SUCCESS CHANNEL_OPEN_FAILURE refl is)),
  )
  reply_on_brought id false recipient replies = (
    (λ is. absurd (not_same CHANNEL_FAILURE REQUEST_SUCCESS refl is)),
    (λ is. absurd (not_same CHANNEL_FAILURE REQUEST_FAILURE refl is)),
    (λ is. absurd (not_same CHANNEL_FAILURE CHANNEL_SUCCESS refl is)),
    (λ is. (id, replies)),
    (λ is. absurd (not_same CHANNEL_FAILURE CHANNEL_OPEN_CONFIRMATION refl is)),
    (λ is. absurd (not_same CHANNEL_FAILURE CHANNEL_OPEN_FAILURE refl is)),
  )

  packet_brought : (recipient : ℕ) (packet : Packet) → IsBrought event (Payload (packet_text recipient packet))
  packet_brought recipient (Piece streams.Data bytes) = other_number (packet_text recipient (Piece streams.Data bytes)) (refl, refl, refl, refl, refl, refl)
  packet_brought recipient (Piece (streams.Extended code) bytes) =
      other_number (packet_text recipient (Piece (streams.Extended code) bytes)) (refl, refl, refl, refl, refl, refl)
  packet_brought recipient Eof = other_number (packet_text recipient Eof) (refl, refl, refl, refl, refl, refl)
  packet_brought recipient Close = other_number (packet_text recipient Close) (refl, refl, refl, refl, refl, refl)
  packet_brought recipient (Adjust amount) = other_number (packet_text recipient (Adjust amount)) (refl, refl, refl, refl, refl, refl)

  -- ---- records of moves

  abbrev All : List Record → Type 0
  All records = AllByRecursion (IsBrought event) records

  packets_brought : (packets : List ChannelPacket) → All (records_of packets)
  packets_brought [] = tt
  packets_brought (one ∷ packets) = (packet_brought one.recipient one.packet, packets_brought packets)

  if_ticket : (b : Bool) (ticket : Ticket) (resolution : Resolution) → All (if b then [] else Resolved ticket resolution ∷ [])
  if_ticket true ticket resolution = tt
  if_ticket false ticket resolution = (tt, tt)

  resolved_brought : (ticket : Ticket) (resolution : Resolution) → All (resolved ticket resolution)
  resolved_brought ticket resolution = if_ticket (eqb ticket.0 0) ticket resolution

  answer_brought : (waits : Option (Option Ticket)) (resolution : Resolution) → All (open_answer waits resolution)
  answer_brought None resolution = tt
  answer_brought (Some ticket) resolution = resolved_brought (or_none ticket) resolution

  oldest_brought : (replies : List ReplyEntry) (resolution : Option Resolution) → All (m.reply_answer replies resolution)
  oldest_brought [] resolution = tt
  oldest_brought (first ∷ replies) None = tt
  oldest_brought (first ∷ replies) (Some (ChannelOpened id)) = tt
  oldest_brought (first ∷ replies) (Some (ChannelOpenFailed reason)) = tt
  oldest_brought (first ∷ replies) (Some resolution) = resolved_brought (or_none first.ticket) resolution

  direct_brought : (ticket : Ticket) (resolution : Resolution) → All (m.direct_answer ticket resolution)
  direct_brought ticket Dropped = resolved_brought ticket Dropped
  direct_brought ticket ExtInfoSeen = resolved_brought ticket ExtInfoSeen
  direct_brought ticket (SigAlgs known names) = resolved_brought ticket (SigAlgs known names)
  direct_brought ticket HostKeysProved = resolved_brought ticket HostKeysProved
  direct_brought ticket resolution = tt

  told_brought : (record_ : Record) → Reports event record_ → All (m.told record_)
  told_brought (output.KexDone kex) reports = (reports, tt)
  told_brought (output.Channel id happened) reports = (reports, tt)
  told_brought (output.ServerOpened id opened) reports = (reports, tt)
  told_brought (output.HostKeysAnnounced blobs) reports = (reports, tt)
  told_brought record_ never = absurd never

  begin_brought : (flag : ExchangeFlag) → All (m.peer_begin_says flag)
  begin_brought Idle = (tt, tt)
  begin_brought flag = tt

  opens_brought : (asked : ChannelOpen) (o : Option ℕ) (side : ℕ → Sender) → All (m.open_packet asked o side)
  opens_brought asked None side = tt
  opens_brought asked (Some n) side = (open_brought asked (side n), tt)

  accepts_brought : (id : ℕ) (o : Option ℕ) (side : Sender) → MayAccept id event → All (m.accept_packet o side)
  accepts_brought id None side may = tt
  accepts_brought id (Some recipient) side may = (accept_brought id (record { recipient = recipient; sender = side }) may, tt)

  rejects_brought : (id : ℕ) (o : Option ℕ) (reason : ChannelOpenFailure) → MayReject id reason event → All (m.reject_packet o reason)
  rejects_brought id None reason may = tt
  rejects_brought id (Some recipient) reason may = (reject_brought id recipient reason may, tt)

  addressed_brought : (o : Option ℕ) (message : ℕ → Message) → ((recipient : ℕ) → IsBrought event (Payload (message_text (message recipient)))) → All (m.addressed o message)
  addressed_brought None message each = tt
  addressed_brought (Some recipient) message each = (each recipient, tt)

  deed_brought : (move : Move) (s : SessionState) → StepFits event move → All (deed move s).says
  deed_brought (m.Opens asked ticket) s fits = opens_brought asked _ (m.our_side s)
  deed_brought (m.Confirms c) s fits = answer_brought (awaited c.recipient s.table) (ChannelOpened (record { 0 = c.recipient }))
  deed_brought (m.Fails id reason) s fits = answer_brought (awaited id s.table) (ChannelOpenFailed reason)
  deed_brought (m.Accepts id) s fits = accepts_brought id _ (m.our_side s id) fits
  deed_brought (m.Rejects id reason) s fits = rejects_brought id _ reason fits
  deed_brought (m.RequestsOn id request) s fits = addressed_brought _ (λ recipient. messages.RequestsOn recipient request) (λ recipient. request_brought recipient request)
  deed_brought (m.AnswersOn id done) s fits = addressed_brought _ (m.answer_on done) (λ recipient. reply_on_brought id done recipient fits)
  deed_brought (m.Answers done) s fits = (reply_brought done fits, tt)
  deed_brought (m.Asks ask) s fits = (ask_brought (wants_answer ask) (request_of ask), tt)
  deed_brought (m.Disconnects reason description language) s fits = (leave_brought reason description language, tt)
  deed_brought (m.Replied resolution) s fits = oldest_brought s.replies resolution
  deed_brought (m.Resolves ticket resolution) s fits = direct_brought ticket resolution
  deed_brought (m.DeniesTicket ticket) s fits = resolved_brought ticket Denied
  deed_brought (m.Tells record_) s reports = told_brought record_ reports
  deed_brought m.Begins s fits = (tt, tt)
  deed_brought m.PeerBegins s fits = begin_brought s.opening.flag
  deed_brought move s fits = tt

  gated_brought : (b : Bool) (d : Deed) (s : SessionState) → All d.says → All (done_if b d s).says
  gated_brought true d s all = all
  gated_brought false d s all = tt

  -- ---- calls of moves

  abbrev Calls : List Call → Type 0
  Calls calls = AllByRecursion (MayCall event) calls

  deed_calls : (move : Move) (s : SessionState) → StepFits event move → Calls (listed (deed move s).call)
  deed_calls (m.Reserves sender) s fits = (fits, tt)
  deed_calls (m.Sends id stream bytes) s fits = (tt, tt)
  deed_calls (m.EndsBytes id) s fits = (tt, tt)
  deed_calls (m.Closes id) s fits = (tt, tt)
  deed_calls (m.PeerCloses id) s fits = (fits, tt)
  deed_calls (m.Grants id amount) s fits = (fits, tt)
  deed_calls (m.Receives id len) s fits = (fits, tt)
  deed_calls (m.Opens asked ticket) s fits = (tt, tt)
  deed_calls (m.Confirms c) s fits = (fits, tt)
  deed_calls (m.Fails id reason) s fits = (fits, tt)
  deed_calls (m.Accepts id) s fits = (fits, tt)
  deed_calls (m.Rejects id reason) s fits = ((reason, fits), tt)
  deed_calls m.Resumes s fits = (fits, tt)
  deed_calls move s fits = tt

  gated_calls : (b : Bool) (d : Deed) (s : SessionState) → Calls (listed d.call) → Calls (listed (done_if b d s).call)
  gated_calls true d s all = all
  gated_calls false d s all = tt

  two_calls : (a b : List Call) → Calls a → Calls b → Calls (a ++ b)
  two_calls [] b one other = other
  two_calls (call ∷ a) b (may, one) other = (may, two_calls a b one other)

  all_calls : (moves : List Move) (s : SessionState) → AllFit event moves → Calls (calls_in moves s)
  all_calls [] s fit = tt
  all_calls (move ∷ moves) s (fits, fit) =
      two_calls (calls_of move s) (calls_in moves (after move s))
      (gated_calls (may_go move s) (deed move s) s (deed_calls move s fits)) (all_calls moves (after move s) fit)

-- ---- a step

pub brings : (event : Event) (moves : List Move) (s : SessionState) → AllFit event moves → AllByRecursion (IsBrought event) (added_in moves s)
brings event moves s fit =
    all_added (IsBrought event) (λ t. Unit {0}) event
    (λ move t fits holds. (
      packets_brought event (did (deed_of move t).call t.table).output,
      gated_brought event (may_go move t) (deed move t) t (deed_brought event move t fits),
      tt,
    ))
    moves s fit tt

pub makes_calls : (event : Event) (moves : List Move) (s new : SessionState) → AllFit event moves → new ≡ done moves s → MakesCalls event s new
makes_calls event moves s new fit is = record {
  calls = calls_in moves s;
  table = ap (λ (t : SessionState). t.table) is ∙ (accounted moves s).table;
  by = all_calls event moves s fit;
}
