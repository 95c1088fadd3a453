-- Laws of the definitions in specs/KeptByMoves.antt.
use Rattle.std.proofs.Common.{◌≡◌, inl, inr, Bool, true, false, ℕ, List, [], ◌∷◌, ◌++◌, length, drop, Option, Some, None, refl, ap, sym, subst, ◌∙◌, append_assoc}
use Rattle.std.proofs.lemmas.List.{append-nil, drop_at}
use Rattle.std.specs.List.{AllByRecursion}
use Rattle.sshc_wire.specs.declared.channel_open_failure.ChannelOpenFailure.{ChannelOpenFailure}
use Rattle.sshc_wire.specs.declared.record.Record.{Record}
use Rattle.sshc_wire.specs.declared.record.Record.TheVariants.{Agent, Payload, Resolved}
use Rattle.sshc_wire.specs.declared.resolution.Resolution.{Resolution}
use Rattle.sshc_wire.specs.declared.resolution.Resolution.TheVariants.{ChannelOpened, ChannelOpenFailed, Denied, Dropped, ExtInfoSeen, HostKeysProved, SigAlgs}
use Rattle.sshc_wire.specs.declared.ticket.Ticket.{Ticket}
use Rattle.sshc_transport.specs.declared.exchange.ExchangeFlag.{ExchangeFlag}
use Rattle.sshc_transport.specs.declared.exchange.ExchangeFlag.TheVariants.{Idle, Ours, Peer}
use Rattle.sshc_auth.specs.OpeningState.{OpeningState}
use Rattle.sshc_mux.specs.ChannelTable.{ChannelPacket, records_of}
use Rattle.sshc_mux.specs.ChannelTable.Opens.{awaited, next_number, unsettled_at}
use Rattle.sshc_client_packets.specs.declared.channel_open.Sender.{Sender}
use Rattle.sshc_client_packets.specs.ChannelOpens.{ChannelOpen}
use Rattle.sshc_client_packets.specs.Messages.{Message}
use Rattle.sshc_client_table.specs.declared.reply_entry.ReplyEntry.{ReplyEntry}
use Rattle.sshc_client_table.specs.ListLaws.{onto-two}
use Rattle.sshc_client_table.specs.Moves.{Accepts, Answers, AnswersOn, Asks, Begins, Confirms, Deed, DeniesTicket, Disconnects, Fails, Fronts, Leaves, Move, Opens, PeerBegins, Rejects, Replied, RequestsOn, Resolves, Stops, Tells, accept_packet, addressed, after, answer_on, askable_at, deed, did, direct_answer, done, done_if, may_go, open_answer, open_packet, or_none, our_side, peer_begin_says, peer_begins, recipient_at, reject_packet, reply_answer, told}
use Rattle.sshc_client_table.specs.SessionState.{SessionState}
use Rattle.sshc_client_table.specs.SessionRecords.{AreSessions}
use Rattle.sshc_client_table.specs.SessionRecordsLaws.{resolved_session, sessions_on}
use Rattle.sshc_client_table.specs.KeptByMoves.{KeepsSession, IsAsBefore, SaidFirst, SaidSessions}

record DeedKeeps (s : SessionState) (d : Deed) : Type 0 where
  pub life : d.life ≡ s.life
  pub phase : d.opening.phase ≡ s.opening.phase
  pub closed : d.opening.closed ≡ s.opening.closed

begins_phase : (flag : ExchangeFlag) (o : OpeningState) → ((peer_begins flag o).phase ≡ o.phase) × ((peer_begins flag o).closed ≡ o.closed)
begins_phase Idle o = (refl, refl)
begins_phase Ours o = (refl, refl)
begins_phase Peer o = (refl, refl)

deed_keeps : (m : Move) (s : SessionState) → KeepsSession m → DeedKeeps s (deed m s)
deed_keeps PeerBegins s keeps = let so = begins_phase s.opening.flag s.opening in record { life = refl; phase = so.0; closed = so.1 }
deed_keeps Leaves s never = absurd never
deed_keeps Stops s never = absurd never
deed_keeps m s keeps = record { life = refl; phase = refl; closed = refl }

gated_keeps : (b : Bool) (m : Move) (s : SessionState) → KeepsSession m → DeedKeeps s (done_if b (deed m s) s)
gated_keeps true m s keeps = deed_keeps m s keeps
gated_keeps false m s keeps = record { life = refl; phase = refl; closed = refl }

after_keeps : (m : Move) (s : SessionState) → KeepsSession m → IsAsBefore s (after m s)
unfolding after
after_keeps m s keeps = let d = gated_keeps (may_go m s) m s keeps in record { life = d.life; phase = d.phase; closed = d.closed }

-- moves by which the session isn't left keep this
pub moves_keep : (moves : List Move) (s : SessionState) → AllByRecursion KeepsSession moves → IsAsBefore s (done moves s)
moves_keep [] s all = record { life = refl; phase = refl; closed = refl }
moves_keep (m ∷ moves) s (keeps, all) =
    let first = after_keeps m s keeps in
    let later = moves_keep moves (after m s) all in
    record { life = later.life ∙ first.life; phase = later.phase ∙ first.phase; closed = later.closed ∙ first.closed }

move_says : (m : Move) (s : SessionState) → SaidFirst s.records (after m s).records
unfolding after
move_says m s =
    let d : Deed = done_if (may_go m s) (deed m s) s in
    (records_of (did d.call s.table).output ++ d.says, onto-two s.records (records_of (did d.call s.table).output) d.says)

said_before : (a b c : List Record) → SaidFirst a b → SaidFirst b c → SaidFirst a c
said_before a b c (more, is) (others, same) = (more ++ others, same ∙ ap (λ (rs : List Record). rs ++ others) is ∙ append_assoc a more others)

-- moves only add to the records
pub moves_say : (moves : List Move) (s : SessionState) → SaidFirst s.records (done moves s).records
moves_say [] s = ([], sym (append-nil s.records))
moves_say (m ∷ moves) s = said_before s.records (after m s).records (done moves (after m s)).records (move_says m s) (moves_say moves (after m s))

-- the records after the first of the moves come first in the records after all of them
pub front_says : (moves : List Move) (old new : SessionState) → Fronts moves old new → SaidFirst new.records (done moves old).records
front_says [] old new is = ([], ap (λ (s : SessionState). s.records) (sym is) ∙ sym (append-nil new.records))
front_says (m ∷ moves) old new (inl is) = let output = moves_say (m ∷ moves) old in (output.0, output.1 ∙ ap (λ (s : SessionState). s.records ++ output.0) (sym is))
front_says (m ∷ moves) old new (inr fronts) = front_says moves (after m old) new fronts

-- the end of a session adds no record
pub stop_says : (s : SessionState) → (after Stops s).records ≡ s.records
unfolding after
stop_says s = refl

-- ---- the records are the session's

packets_session : (output : List ChannelPacket) → AreSessions (records_of output)
packets_session [] = tt
packets_session (packet ∷ output) = (refl, packets_session output)

open_session : (asked : ChannelOpen) (number : Option ℕ) (side : ℕ → Sender) → AreSessions (open_packet asked number side)
open_session asked None side = tt
open_session asked (Some number) side = (refl, tt)

answer_session : (ticket : Option (Option Ticket)) (resolution : Resolution) → AreSessions (open_answer ticket resolution)
answer_session None resolution = tt
answer_session (Some ticket) resolution = resolved_session (or_none ticket) resolution

accept_session : (recipient : Option ℕ) (side : Sender) → AreSessions (accept_packet recipient side)
accept_session None side = tt
accept_session (Some recipient) side = (refl, tt)

reject_session : (recipient : Option ℕ) (reason : ChannelOpenFailure) → AreSessions (reject_packet recipient reason)
reject_session None reason = tt
reject_session (Some recipient) reason = (refl, tt)

addressed_session : (recipient : Option ℕ) (message : ℕ → Message) → AreSessions (addressed recipient message)
addressed_session None message = tt
addressed_session (Some recipient) message = (refl, tt)

reply_session : (replies : List ReplyEntry) (resolution : Option Resolution) → AreSessions (reply_answer replies resolution)
reply_session [] resolution = tt
reply_session (first ∷ replies) None = tt
reply_session (first ∷ replies) (Some (ChannelOpened id)) = tt
reply_session (first ∷ replies) (Some (ChannelOpenFailed reason)) = tt
reply_session (first ∷ replies) (Some resolution) = resolved_session (or_none first.ticket) resolution

direct_session : (ticket : Ticket) (resolution : Resolution) → AreSessions (direct_answer ticket resolution)
direct_session ticket Dropped = resolved_session ticket Dropped
direct_session ticket ExtInfoSeen = resolved_session ticket ExtInfoSeen
direct_session ticket (SigAlgs known names) = resolved_session ticket (SigAlgs known names)
direct_session ticket HostKeysProved = resolved_session ticket HostKeysProved
direct_session ticket resolution = tt

told_session : (output : Record) → KeepsSession (Tells output) → AreSessions (told output)
told_session (Payload packet) keeps = tt
told_session (Resolved ticket resolution) keeps = tt
told_session (Agent conn answer) never = absurd never
told_session output keeps = (refl, tt)

begin_session : (flag : ExchangeFlag) → AreSessions (peer_begin_says flag)
begin_session Idle = (refl, tt)
begin_session flag = tt

deed_session : (m : Move) (s : SessionState) → KeepsSession m → AreSessions (deed m s).says
deed_session (Opens asked ticket) s keeps = open_session asked (next_number s.table) (our_side s)
deed_session (Confirms c) s keeps = answer_session (awaited c.recipient s.table) _
deed_session (Fails id reason) s keeps = answer_session (awaited id s.table) _
deed_session (Accepts id) s keeps = accept_session (unsettled_at id s.table) (our_side s id)
deed_session (Rejects id reason) s keeps = reject_session (unsettled_at id s.table) reason
deed_session (RequestsOn id request) s keeps = addressed_session (askable_at id s.table) _
deed_session (AnswersOn id done) s keeps = addressed_session (recipient_at id s.table) (answer_on done)
deed_session (Answers done) s keeps = (refl, tt)
deed_session (Asks ask) s keeps = (refl, tt)
deed_session (Disconnects reason description language) s keeps = (refl, tt)
deed_session (Replied resolution) s keeps = reply_session s.replies resolution
deed_session (Resolves ticket resolution) s keeps = direct_session ticket resolution
deed_session (DeniesTicket ticket) s keeps = resolved_session ticket Denied
deed_session (Tells output) s keeps = told_session output keeps
deed_session Begins s keeps = (refl, tt)
deed_session PeerBegins s keeps = begin_session s.opening.flag
deed_session m s keeps = tt

gated_session : (b : Bool) (m : Move) (s : SessionState) → KeepsSession m → AreSessions (done_if b (deed m s) s).says
gated_session true m s keeps = deed_session m s keeps
gated_session false m s keeps = tt

after_session : (m : Move) (s : SessionState) → KeepsSession m → SaidSessions s.records (after m s).records
unfolding after
after_session m s keeps =
    let d : Deed = done_if (may_go m s) (deed m s) s in
    let packets : List Record = records_of (did d.call s.table).output in
    (packets ++ d.says, onto-two s.records packets d.says, sessions_on packets d.says (packets_session (did d.call s.table).output) (gated_session (may_go m s) m s keeps))

moves_session : (moves : List Move) (s : SessionState) → AllByRecursion KeepsSession moves → SaidSessions s.records (done moves s).records
moves_session [] s all = ([], sym (append-nil s.records), tt)
moves_session (m ∷ moves) s (keeps, all) =
    let one = after_session m s keeps in
    let later = moves_session moves (after m s) all in
    (one.0 ++ later.0, later.1 ∙ ap (λ (rs : List Record). rs ++ later.0) one.1 ∙ append_assoc s.records one.0 later.0, sessions_on one.0 later.0 one.2 later.2)

-- the records that such moves add after those before are the session's
pub said_session : (moves : List Move) (s : SessionState) → AllByRecursion KeepsSession moves → AreSessions (drop (length s.records) (done moves s).records)
said_session moves s all =
    let output = moves_session moves s all in
    subst AreSessions (sym (ap (drop (length s.records)) output.1 ∙ drop_at s.records output.0 (length s.records) refl)) output.2
