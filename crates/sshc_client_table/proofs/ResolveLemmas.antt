-- Without a reply, a step of an open session resolves no ticket but an open's and the event's own.
use Rattle.std.proofs.Common.{◌≡◌, Bool, true, false, ◌&&◌, not, List, [], ◌∷◌, eqb, if◌then◌else◌, Option, Some, None, refl, ap, ◌∙◌}
use Rattle.std.specs.List.{AllByRecursion}
use Rattle.sshc_wire.specs.declared.channel_id.ChannelId.{ChannelId}
use Rattle.sshc_wire.specs.declared.channel_open_failure.ChannelOpenFailure.{ChannelOpenFailure}
use Rattle.sshc_wire.specs.declared.record.Record.{Record}
use Rattle.sshc_wire.specs.declared.record.Record.TheVariants as output
use Rattle.sshc_wire.specs.declared.record.Record.TheVariants.{Resolved}
use Rattle.sshc_wire.specs.declared.resolution.Resolution.{Resolution}
use Rattle.sshc_wire.specs.declared.resolution.Resolution.TheVariants.{ChannelOpened, ChannelOpenFailed, Dropped, ExtInfoSeen, HostKeysProved, SigAlgs}
use Rattle.sshc_wire.specs.declared.ticket.Ticket.{Ticket}
use Rattle.sshc_auth_event.specs.declared.event.Event.{Event}
use Rattle.sshc_auth.specs.OpeningState.{OpeningState}
use Rattle.sshc_transport.specs.declared.exchange.ExchangeFlag.{ExchangeFlag}
use Rattle.sshc_transport.specs.declared.exchange.ExchangeFlag.TheVariants.{Idle, Ours, Peer}
use Rattle.sshc_mux.specs.ChannelTable.{ChannelPacket, records_of}
use Rattle.sshc_mux.specs.ChannelTable.Opens.{awaited}
use Rattle.sshc_client_table.specs.Moves as m
use Rattle.sshc_client_table.specs.Moves.{Deed, Move, after, deed, deed_of, did, done_if, may_go, open_answer, or_none}
use Rattle.sshc_client_table.specs.RowMovesLaws.{is_report}
use Rattle.sshc_client_table.specs.RowMoves.{IsReport, ResolvesOwn}
use Rattle.sshc_client_table.specs.SessionState.{SessionState, is_open, opens_later, runs}
use Rattle.sshc_client_table.specs.StepLaws.{IsReply, ResolvesBy}
use Rattle.sshc_client_table.proofs.SaidLemmas.{PlainKinds, plain_holds}
use Rattle.sshc_client_table.proofs.StepMoves.{AllFit, StepFits, added_in, all_added}

-- ---- records

report_resolves : (event : Event) (record_ : Record) → IsReport record_ → ResolvesBy event record_
report_resolves event (output.KexDone kex) is = tt
report_resolves event (output.Channel id happened) is = tt
report_resolves event (output.ServerOpened id opened) is = tt
report_resolves event (output.HostKeysAnnounced blobs) is = tt
report_resolves event record_ never = absurd never

plain_resolves : (event : Event) → PlainKinds (λ record_. ResolvesBy event record_)
plain_resolves event = record { message = λ message none. tt; disconnection = λ reason description language. tt; begins = tt; report = report_resolves event }

packets_resolve : (event : Event) (packets : List ChannelPacket) → AllByRecursion (λ record_. ResolvesBy event record_) (records_of packets)
packets_resolve event [] = tt
packets_resolve event (packet ∷ packets) = (tt, packets_resolve event packets)

-- ---- moves

module _ (event : Event) where
  abbrev All : List Record → Type 0
  All records = AllByRecursion (λ record_. ResolvesBy event record_) records

  if_ticket : (b : Bool) (ticket : Ticket) (resolution : Resolution) → ResolvesBy event (Resolved ticket resolution) → All (if b then [] else Resolved ticket resolution ∷ [])
  if_ticket true ticket resolution by = tt
  if_ticket false ticket resolution by = (by, tt)

  direct_resolves : (ticket : Ticket) (resolution : Resolution) → ResolvesOwn event ticket resolution → All (m.direct_answer ticket resolution)
  direct_resolves ticket Dropped own = if_ticket (eqb ticket.0 0) ticket Dropped own
  direct_resolves ticket ExtInfoSeen own = if_ticket (eqb ticket.0 0) ticket ExtInfoSeen own
  direct_resolves ticket (SigAlgs known names) own = if_ticket (eqb ticket.0 0) ticket (SigAlgs known names) own
  direct_resolves ticket HostKeysProved own = if_ticket (eqb ticket.0 0) ticket HostKeysProved own
  direct_resolves ticket resolution own = tt

  opened_resolves : (waits : Option (Option Ticket)) (id : ChannelId) → All (open_answer waits (ChannelOpened id))
  opened_resolves None id = tt
  opened_resolves (Some ticket) id = if_ticket (eqb (or_none ticket).0 0) (or_none ticket) (ChannelOpened id) tt

  failed_resolves : (waits : Option (Option Ticket)) (reason : ChannelOpenFailure) → All (open_answer waits (ChannelOpenFailed reason))
  failed_resolves None reason = tt
  failed_resolves (Some ticket) reason = if_ticket (eqb (or_none ticket).0 0) (or_none ticket) (ChannelOpenFailed reason) tt

  gated_resolves : (b : Bool) (d : Deed) (s : SessionState) → All d.says → All (done_if b d s).says
  gated_resolves true d s all = all
  gated_resolves false d s all = tt

  -- a denial is no move of an open session
  denies_none : (b : Bool) (ticket : Ticket) (s : SessionState) → b ≡ false → All (done_if b (deed (m.DeniesTicket ticket) s) s).says
  denies_none true ticket s never = absurd cc
  denies_none false ticket s never = tt

  never_later : (opened lives : Bool) → opened ≡ true → not opened && lives ≡ false
  never_later true lives is = refl
  never_later false lives is = absurd cc

  says_resolve : (move : Move) (s : SessionState) → StepFits event move → (IsReply event → ⊥) → is_open s.opening.phase ≡ true → All (deed_of move s).says
  says_resolve (m.Replied resolution) s fits none is = absurd (none fits)
  says_resolve (m.Resolves ticket resolution) s fits none is = gated_resolves (may_go (m.Resolves ticket resolution) s) (deed (m.Resolves ticket resolution) s) s (direct_resolves ticket resolution fits)
  says_resolve (m.Confirms c) s fits none is = gated_resolves (may_go (m.Confirms c) s) (deed (m.Confirms c) s) s (opened_resolves (awaited c.recipient s.table) (record { 0 = c.recipient }))
  says_resolve (m.Fails id reason) s fits none is = gated_resolves (may_go (m.Fails id reason) s) (deed (m.Fails id reason) s) s (failed_resolves (awaited id s.table) reason)
  says_resolve (m.DeniesTicket ticket) s fits none is = denies_none (opens_later s) ticket s (never_later (is_open s.opening.phase) (runs s.life) is)
  says_resolve (m.Asks ask) s fits none is = gated_resolves (may_go (m.Asks ask) s) (deed (m.Asks ask) s) s (tt, tt)
  says_resolve (m.Tells record_) s is none stays = gated_resolves (may_go (m.Tells record_) s) (deed (m.Tells record_) s) s (plain_holds (λ r. ResolvesBy event r) (plain_resolves event) (m.Tells record_) s (is_report event record_ is))
  says_resolve move s fits none is = gated_resolves (may_go move s) (deed move s) s (plain_holds (λ r. ResolvesBy event r) (plain_resolves event) move s tt)

-- ---- the session stays open

begun_open : (flag : ExchangeFlag) (o : OpeningState) → (m.peer_begins flag o).phase ≡ o.phase
begun_open Idle o = refl
begun_open Ours o = refl
begun_open Peer o = refl

deed_phase : (move : Move) (s : SessionState) → (deed move s).opening.phase ≡ s.opening.phase
deed_phase m.PeerBegins s = begun_open s.opening.flag s.opening
deed_phase move s = refl

gated_phase : (b : Bool) (move : Move) (s : SessionState) → (done_if b (deed move s) s).opening.phase ≡ s.opening.phase
gated_phase true move s = deed_phase move s
gated_phase false move s = refl

still_open : (move : Move) (s : SessionState) → is_open s.opening.phase ≡ true → is_open (after move s).opening.phase ≡ true
unfolding after
still_open move s is = ap is_open (gated_phase (may_go move s) move s) ∙ is

pub resolves : (event : Event) (moves : List Move) (s : SessionState) → AllFit event moves → (IsReply event → ⊥) → is_open s.opening.phase ≡ true → AllByRecursion (λ record_. ResolvesBy event record_) (added_in moves s)
resolves event moves s fit none is =
    all_added (λ record_. ResolvesBy event record_) (λ t. is_open t.opening.phase ≡ true) event
    (λ move t fits stays. (packets_resolve event (did (deed_of move t).call t.table).output, says_resolve event move t fits none stays, still_open move t stays))
    moves s fit is
