-- Rows of opens and their answers (RFC 4254, section 5.1).
use Rattle.std.specs.Prelude.{ℕ, Bool, true, false, List, [], ◌∷◌, Option, Some, None}
use Rattle.sshc_wire.specs.declared.channel_open_failure.ChannelOpenFailure.TheVariants.{UnknownChannelType}
use Rattle.sshc_wire.specs.declared.channel_record.ChannelRecord.TheVariants as happened
use Rattle.sshc_wire.specs.declared.channel_record.ServerOpen.{ServerOpen}
use Rattle.sshc_wire.specs.declared.channel_record.ServerOpen.TheVariants.{Unknown}
use Rattle.sshc_wire.specs.declared.record.Record.TheVariants.{ServerOpened as ServerOpenedRecord}
use Rattle.sshc_wire.specs.declared.ticket.Ticket.{Ticket}
use Rattle.sshc_auth.specs.declared.error.Error.TheVariants.{Inconsistent, NoMemory}
use Rattle.sshc_mux.specs.ChannelTable.Opens.{awaited, next_number}
use Rattle.sshc_client_packets.specs.declared.channel_open.Confirmation.{Confirmation}
use Rattle.sshc_client_packets.specs.declared.channel_open.Sender.{Sender}
use Rattle.sshc_client_packets.specs.ChannelPackets.{Refusal, confirmation_of, refusal_of}
use Rattle.sshc_client_packets.specs.PeerOpens.{peer_open_of, server_open_of}
use Rattle.sshc_client_table.specs.declared.open_answer.OpenAnswer.{OpenAnswer}
use Rattle.sshc_client_table.specs.declared.open_answer.OpenAnswer.TheVariants.{Accept, Reject, Later}
use Rattle.sshc_client_table.specs.SessionState.{SessionState}
use Rattle.sshc_client_table.specs.Moves.{Accepts, Confirms, Fails, Grants, Move, Rejects, Reserves, Tells}
use Rattle.sshc_client_table.specs.SessionRow.{Opinions, ServerOpened, SessionRow, UnknownOffered, goes, opining, passed_over, plain_row, refused, reports, with_kept, with_read}

-- 91: an open of ours that waits is confirmed, its ticket is resolved, and then what waits on the channel is sent
abbrev pub confirmed_row : Option (Option Ticket) → Confirmation → SessionRow
confirmed_row None c = refused Inconsistent
confirmed_row (Some ticket) c =
    reports (Confirms c ∷ []) c.recipient (happened.Open c.sender.max_packet_size c.sender.window_size) (Grants c.recipient 0 ∷ [])

unfoldable pub open_confirmation_row : SessionState → List ℕ → SessionRow
open_confirmation_row s body = with_read (confirmation_of body) (λ c. confirmed_row (awaited c.recipient s.table) c)

-- 92: an open of ours that waits is refused, and its ticket is resolved; for any other number nothing happens
abbrev pub failed_row : Option (Option Ticket) → Refusal → SessionRow
failed_row None r = passed_over
failed_row (Some ticket) r =
    reports (Fails r.id.0 r.reason ∷ []) r.id.0 (happened.OpenFailure r.reason r.description r.language) []

unfoldable pub open_failure_row : SessionState → List ℕ → SessionRow
open_failure_row s body = with_read (refusal_of body) (λ r. failed_row (awaited r.id.0 s.table) r)

-- what the handler's answer to an open of the peer's does
abbrev pub settled : ℕ → OpenAnswer → List Move
settled id Accept = Accepts id ∷ Grants id 0 ∷ []
settled id (Reject reason) = Rejects id reason ∷ []
settled id Later = []

-- the handler is asked, and its answer is carried out
abbrev pub serving_row : Sender → ℕ → ServerOpen → SessionRow
serving_row sender id opened = record {
  opinion = None;
  front = Reserves sender ∷ [];
  asks = Some (ServerOpened id opened);
  back = λ answer. Tells (ServerOpenedRecord (record { 0 = id }) opened) ∷ settled id answer;
  next = goes;
}

-- an open of an unknown type, by its name: the handler is asked whether it takes it, and it is refused if it doesn't
abbrev pub offered_row : Bool → Sender → ℕ → List ℕ → SessionRow
offered_row true sender id kind = opining (Some (UnknownOffered id kind)) (serving_row sender id Unknown)
offered_row false sender id kind =
    opining (Some (UnknownOffered id kind)) (plain_row (Reserves sender ∷ Rejects id UnknownChannelType ∷ []))

abbrev pub served_row : Bool → Sender → ℕ → List ℕ → ServerOpen → SessionRow
served_row takes_unknown sender id kind Unknown = offered_row takes_unknown sender id kind
served_row takes_unknown sender id kind opened = serving_row sender id opened

-- 90: an open of the peer's takes the next number; if no number is free it counts as out of memory
abbrev pub numbered_open_row : Opinions → Option ℕ → Sender → List ℕ → ServerOpen → SessionRow
numbered_open_row o None sender kind opened = refused NoMemory
numbered_open_row o (Some id) sender kind opened = served_row o.takes_unknown sender id kind opened

unfoldable pub channel_open_row : Opinions → SessionState → List ℕ → SessionRow
channel_open_row o s body =
    with_read (peer_open_of body) (λ head.
    with_kept (server_open_of head.kind head.rest) (λ opened.
    numbered_open_row o (next_number s.table) head.sender head.kind opened))
