-- The outbox of a live session drops no packet, and a record that isn't a packet is never dropped.
use Rattle.std.proofs.Common.{◌≡◌, Bool, true, false, not, ◌&&◌, List, [], ◌∷◌, ◌++◌, refl, ap, ◌∙◌}
use Rattle.std.proofs.lemmas.List.{append-nil}
use Rattle.sshc_wire.specs.declared.record.Record.{Record}
use Rattle.sshc_wire.specs.declared.record.Record.TheVariants.{Payload, BeginExchange, Opened, Resolved, Auth, KexDone, AuthBanner, Channel, ServerOpened, HostKeysAnnounced, Agent}
use Rattle.sshc_wire.specs.declared.resolution.Resolution.{Resolution}
use Rattle.sshc_wire.specs.declared.ticket.Ticket.{Ticket}
use Rattle.sshc_wire.specs.Outgoing.{shown}
use Rattle.sshc_wire.specs.OutgoingLaws.{shown-open}
use Rattle.sshc_client_table.specs.Moves.{told}
use Rattle.sshc_client_table.specs.SessionState.{SessionState, is_live, opens_later, runs}

second_holds : (a b : Bool) → a && b ≡ true → not b ≡ false
second_holds true true h = refl
second_holds true false h = absurd (cc)
second_holds false b h = absurd (cc)

second_true : (a b : Bool) → a && b ≡ true → b ≡ true
second_true true b h = h
second_true false b h = absurd (cc)

pub live_unmuted : (s : SessionState) → is_live s ≡ true → not (runs s.life) ≡ false
live_unmuted s live = second_holds _ (runs s.life) live

pub live_runs : (s : SessionState) → is_live s ≡ true → runs s.life ≡ true
live_runs s live = second_true _ (runs s.life) live

pub later_runs : (s : SessionState) → opens_later s ≡ true → runs s.life ≡ true
later_runs s later = second_true _ (runs s.life) later

pub shown_open : (muted : Bool) (records : List Record) → muted ≡ false → shown muted records ≡ records
shown_open muted records is = ap (λ (b : Bool). shown b records) is ∙ shown-open records

pub shown_resolved : (muted : Bool) (ticket : Ticket) (resolution : Resolution) →
    shown muted (Resolved ticket resolution ∷ []) ≡ Resolved ticket resolution ∷ []
shown_resolved true ticket resolution = refl
shown_resolved false ticket resolution = refl

pub nothing_more : (records : List Record) → records ++ [] ≡ records
nothing_more records = append-nil records

pub shown_told : (muted : Bool) (output : Record) → shown muted (told output) ≡ told output
shown_told true (Payload packet) = refl
shown_told true (Resolved ticket resolution) = refl
shown_told true BeginExchange = refl
shown_told true Opened = refl
shown_told true (Auth ticket asked) = refl
shown_told true (KexDone kex) = refl
shown_told true (AuthBanner banner) = refl
shown_told true (Channel id happened) = refl
shown_told true (ServerOpened id server_open) = refl
shown_told true (HostKeysAnnounced keys) = refl
shown_told true (Agent conn answer) = refl
shown_told false output = shown-open (told output)
