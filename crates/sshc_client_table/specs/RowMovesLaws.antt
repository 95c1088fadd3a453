-- Laws of the definitions in specs/RowMoves.antt.
use Rattle.std.specs.Prelude.{◌≡◌, ℕ, List, ◌∷◌, Ok}
use Rattle.sshc_wire.specs.MessageNumbers.{CHANNEL_OPEN_CONFIRMATION, CHANNEL_OPEN_FAILURE}
use Rattle.sshc_wire.specs.declared.record.Record.{Record}
use Rattle.sshc_wire.specs.declared.record.Record.TheVariants as output
use Rattle.sshc_auth_event.specs.declared.event.Event.{Event}
use Rattle.sshc_auth_event.specs.declared.event.Event.TheVariants as events
use Rattle.sshc_client_packets.specs.declared.channel_open.Confirmation.{Confirmation}
use Rattle.sshc_client_packets.specs.ChannelPackets.{confirmation_of, refusal_of}
use Rattle.sshc_client_table.specs.PeerSays.{IsPacketOf, IsRefused, Reports, SaysConfirmed}
use Rattle.sshc_client_table.specs.Moves as m
use Rattle.sshc_client_table.specs.Moves.{Move}
use Rattle.sshc_client_table.specs.KeptByMoves.{KeepsSession}
use Rattle.sshc_client_table.specs.RowMoves.{IsReport, IsPacket, Fits}

report_keeps : (record_ : Record) → IsReport record_ → KeepsSession (m.Tells record_)
report_keeps (output.Agent conn answer) never = absurd never
report_keeps record_ is = tt

-- what is reported is one of the records that a row reports
pub is_report : (event : Event) (record_ : Record) → Reports event record_ → IsReport record_
is_report event (output.KexDone kex) is = tt
is_report event (output.Channel id happened) is = tt
is_report event (output.ServerOpened id opened) is = tt
is_report event (output.HostKeysAnnounced blobs) is = tt
is_report event record_ never = absurd never

-- a packet whose bytes say something is a packet of its number
pub is_packet : (k : ℕ) (Holds : List ℕ → Type 0) (event : Event) → IsPacketOf k Holds event → IsPacket k event
is_packet k Holds (events.Payload (n ∷ body)) says = says.0
is_packet k Holds event never = absurd never

pub confirms_packet : (c : Confirmation) (event : Event) → SaysConfirmed c event → IsPacket CHANNEL_OPEN_CONFIRMATION event
confirms_packet c event says = is_packet CHANNEL_OPEN_CONFIRMATION (λ body. confirmation_of body ≡ Ok c) event says

pub fails_packet : (id : ℕ) (event : Event) → IsRefused id event → IsPacket CHANNEL_OPEN_FAILURE event
fails_packet id event says = is_packet CHANNEL_OPEN_FAILURE (λ body. refusal_of body ≡ Ok says.0) event says.1

pub fits_keeps : (event : Event) (move : Move) → Fits event move → KeepsSession move
fits_keeps event (m.Tells record_) is = report_keeps record_ (is_report event record_ is)
fits_keeps event m.Leaves never = absurd never
fits_keeps event m.Stops never = absurd never
fits_keeps event move is = tt
