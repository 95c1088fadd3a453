-- What holds of each kind of record holds of all that a move adds beside the packets of its channel.
use Rattle.std.proofs.Common.{ℕ, Bool, true, false, List, [], ◌∷◌, eqb, if◌then◌else◌, Option, Some, None}
use Rattle.std.specs.List.{AllByRecursion}
use Rattle.sshc_wire.specs.declared.channel_open_failure.ChannelOpenFailure.{ChannelOpenFailure}
use Rattle.sshc_wire.specs.declared.disconnect.Disconnect.{Disconnect}
use Rattle.sshc_wire.specs.declared.record.Record.{Record}
use Rattle.sshc_wire.specs.declared.record.Record.TheVariants.{BeginExchange, Payload, Resolved}
use Rattle.sshc_wire.specs.declared.resolution.Resolution.{Resolution}
use Rattle.sshc_wire.specs.declared.resolution.Resolution.TheVariants.{ChannelOpened, ChannelOpenFailed, Denied, Dropped, ExtInfoSeen, HostKeysProved, SigAlgs}
use Rattle.sshc_wire.specs.declared.ticket.Ticket.{Ticket}
use Rattle.sshc_transport.specs.declared.exchange.ExchangeFlag.{ExchangeFlag}
use Rattle.sshc_transport.specs.declared.exchange.ExchangeFlag.TheVariants.{Idle}
use Rattle.sshc_auth_request.specs.RequestTexts.{disconnect}
use Rattle.sshc_auth.specs.Row.{resolved}
use Rattle.sshc_client_packets.specs.declared.channel_open.Sender.{Sender}
use Rattle.sshc_client_packets.specs.ChannelOpens.{ChannelOpen}
use Rattle.sshc_client_packets.specs.Messages.{Message, Confirms, Opens, Refuses, Requests, RequestsOn, message_text}
use Rattle.sshc_client_table.specs.declared.reply_entry.ReplyEntry.{ReplyEntry}
use Rattle.sshc_client_table.specs.Messages.{Ask, asking_message}
use Rattle.sshc_client_table.specs.Moves as m
use Rattle.sshc_client_table.specs.Moves.{Deed, Move, deed, deed_of, done_if, may_go, still}
use Rattle.sshc_client_table.specs.OpensOnce.{NoOpenAnswer}
use Rattle.sshc_client_table.specs.RowMoves.{IsReport}
use Rattle.sshc_client_table.specs.SessionState.{SessionState}

-- any message but a request of ours to the server as a whole
abbrev pub IsNoRequest : Message → Type 0
IsNoRequest (Requests want_reply request) = ⊥
IsNoRequest message = Unit {0}

-- what is said of each kind of record that answers no ticket, and is no such request
pub record PlainKinds (P : Record → Type 0) : Type 0 where
  pub message : (message : Message) → IsNoRequest message → P (Payload (message_text message))
  pub disconnection : (reason : Disconnect) (description language : List ℕ) → P (Payload (disconnect reason description language))
  pub begins : P BeginExchange
  pub report : (output : Record) → IsReport output → P output

-- what is said of each kind of record
pub record Kinds (P : Record → Type 0) : Type 0 where
  pub plain : PlainKinds P
  pub ask : (ask : Ask) → P (Payload (message_text (asking_message ask)))
  pub answer : (ticket : Ticket) (resolution : Resolution) → NoOpenAnswer (Resolved ticket resolution) → P (Resolved ticket resolution)

-- a move that answers no open, and reports only what a row reports
abbrev pub SaysPlainly : Move → Type 0
SaysPlainly (m.Confirms c) = ⊥
SaysPlainly (m.Fails id reason) = ⊥
SaysPlainly (m.Tells output) = IsReport output
SaysPlainly move = Unit {0}

-- the same, and no other ticket, and asks for no reply
abbrev pub AnswersNone : Move → Type 0
AnswersNone (m.Confirms c) = ⊥
AnswersNone (m.Fails id reason) = ⊥
AnswersNone (m.Replied resolution) = ⊥
AnswersNone (m.Resolves ticket resolution) = ⊥
AnswersNone (m.DeniesTicket ticket) = ⊥
AnswersNone (m.Asks ask) = ⊥
AnswersNone (m.Tells output) = IsReport output
AnswersNone move = Unit {0}

module _ (P : Record → Type 0) (kinds : PlainKinds P) where
  open_holds : (asked : ChannelOpen) (o : Option ℕ) (side : ℕ → Sender) → AllByRecursion P (m.open_packet asked o side)
  open_holds asked None side = tt
  open_holds asked (Some n) side = (kinds.message (Opens asked (side n)) tt, tt)

  accept_holds : (o : Option ℕ) (side : Sender) → AllByRecursion P (m.accept_packet o side)
  accept_holds None side = tt
  accept_holds (Some recipient) side = (kinds.message (Confirms (record { recipient = recipient; sender = side })) tt, tt)

  reject_holds : (o : Option ℕ) (reason : ChannelOpenFailure) → AllByRecursion P (m.reject_packet o reason)
  reject_holds None reason = tt
  reject_holds (Some recipient) reason = (kinds.message (Refuses recipient reason) tt, tt)

  addressed_holds : (o : Option ℕ) (message : ℕ → Message) → ((recipient : ℕ) → IsNoRequest (message recipient)) → AllByRecursion P (m.addressed o message)
  addressed_holds None message none = tt
  addressed_holds (Some recipient) message none = (kinds.message (message recipient) (none recipient), tt)

  no_answer : (done : Bool) (recipient : ℕ) → IsNoRequest (m.answer_on done recipient)
  no_answer true recipient = tt
  no_answer false recipient = tt

  no_answer_to_all : (done : Bool) → IsNoRequest (m.answer_to_all done)
  no_answer_to_all true = tt
  no_answer_to_all false = tt

  told_holds : (output : Record) → IsReport output → AllByRecursion P (m.told output)
  told_holds (Payload packet) never = absurd never
  told_holds (Resolved ticket resolution) never = absurd never
  told_holds output is = (kinds.report output is, tt)

  begin_holds : (flag : ExchangeFlag) → AllByRecursion P (m.peer_begin_says flag)
  begin_holds Idle = (kinds.begins, tt)
  begin_holds flag = tt

  pub plain_holds : (move : Move) (s : SessionState) → AnswersNone move → AllByRecursion P (deed move s).says
  plain_holds (m.Confirms c) s never = absurd never
  plain_holds (m.Fails id reason) s never = absurd never
  plain_holds (m.Replied resolution) s never = absurd never
  plain_holds (m.Resolves ticket resolution) s never = absurd never
  plain_holds (m.DeniesTicket ticket) s never = absurd never
  plain_holds (m.Asks ask) s never = absurd never
  plain_holds (m.Tells output) s is = told_holds output is
  plain_holds (m.Opens asked ticket) s none = open_holds asked _ (m.our_side s)
  plain_holds (m.Accepts id) s none = accept_holds _ (m.our_side s id)
  plain_holds (m.Rejects id reason) s none = reject_holds _ reason
  plain_holds (m.RequestsOn id request) s none = addressed_holds _ (λ recipient. RequestsOn recipient request) (λ recipient. tt)
  plain_holds (m.AnswersOn id done) s none = addressed_holds _ (m.answer_on done) (no_answer done)
  plain_holds (m.Answers done) s none = (kinds.message (m.answer_to_all done) (no_answer_to_all done), tt)
  plain_holds (m.Disconnects reason description language) s none = (kinds.disconnection reason description language, tt)
  plain_holds m.Begins s none = (kinds.begins, tt)
  plain_holds m.PeerBegins s none = begin_holds s.opening.flag
  plain_holds move s none = tt

module _ (P : Record → Type 0) (kinds : Kinds P) where
  abbrev All : List Record → Type 0
  All records = AllByRecursion P records

  if_ticket : (b : Bool) (ticket : Ticket) (resolution : Resolution) → P (Resolved ticket resolution) → All (if b then [] else Resolved ticket resolution ∷ [])
  if_ticket true ticket resolution holds = tt
  if_ticket false ticket resolution holds = (holds, tt)

  resolved_holds : (ticket : Ticket) (resolution : Resolution) → NoOpenAnswer (Resolved ticket resolution) → All (resolved ticket resolution)
  resolved_holds ticket resolution none = if_ticket (eqb ticket.0 0) ticket resolution (kinds.answer ticket resolution none)

  reply_holds : (replies : List ReplyEntry) (resolution : Option Resolution) → All (m.reply_answer replies resolution)
  reply_holds [] resolution = tt
  reply_holds (first ∷ replies) None = tt
  reply_holds (first ∷ replies) (Some (ChannelOpened id)) = tt
  reply_holds (first ∷ replies) (Some (ChannelOpenFailed reason)) = tt
  reply_holds (first ∷ replies) (Some resolution) = resolved_holds (m.or_none first.ticket) resolution tt

  direct_holds : (ticket : Ticket) (resolution : Resolution) → All (m.direct_answer ticket resolution)
  direct_holds ticket Dropped = resolved_holds ticket Dropped tt
  direct_holds ticket ExtInfoSeen = resolved_holds ticket ExtInfoSeen tt
  direct_holds ticket (SigAlgs known names) = resolved_holds ticket (SigAlgs known names) tt
  direct_holds ticket HostKeysProved = resolved_holds ticket HostKeysProved tt
  direct_holds ticket resolution = tt

  deed_holds : (move : Move) (s : SessionState) → SaysPlainly move → All (deed move s).says
  deed_holds (m.Confirms c) s never = absurd never
  deed_holds (m.Fails id reason) s never = absurd never
  deed_holds (m.Replied resolution) s plain = reply_holds s.replies resolution
  deed_holds (m.Resolves ticket resolution) s plain = direct_holds ticket resolution
  deed_holds (m.DeniesTicket ticket) s plain = resolved_holds ticket Denied tt
  deed_holds (m.Asks ask) s plain = (kinds.ask ask, tt)
  deed_holds move s plain = plain_holds P kinds.plain move s plain

  gated_holds : (b : Bool) (move : Move) (s : SessionState) → SaysPlainly move → All (done_if b (deed move s) s).says
  gated_holds true move s plain = deed_holds move s plain
  gated_holds false move s plain = tt

  pub says_hold : (move : Move) (s : SessionState) → SaysPlainly move → All (deed_of move s).says
  says_hold move s plain = gated_holds (may_go move s) move s plain
