-- The table of an open session: a row for each event (RFC 4254; OpenSSH's PROTOCOL). By cases on plain data, one
-- definition a row. `accepts` is the verifier's relation, `o` what the handler returns without the session.
pub mod Exchanges
pub mod Opens
pub mod Streams
pub mod Requests
pub mod Replies
pub mod Users
pub mod Timers
use Rattle.std.specs.Prelude.{ℕ, Bool, true, false, List, [], ◌∷◌, length, if◌then◌else◌, ◌==◌, ◌&&◌, nat_le, Option, Some, None}
use Rattle.sshc_wire.specs.declared.disconnect.Disconnect.{Disconnect}
use Rattle.sshc_wire.specs.MessageNumbers.{DISCONNECT, GLOBAL_REQUEST, REQUEST_SUCCESS, REQUEST_FAILURE, CHANNEL_OPEN, CHANNEL_OPEN_CONFIRMATION, CHANNEL_OPEN_FAILURE, CHANNEL_WINDOW_ADJUST, CHANNEL_DATA, CHANNEL_EXTENDED_DATA, CHANNEL_EOF, CHANNEL_CLOSE, CHANNEL_REQUEST, CHANNEL_SUCCESS, CHANNEL_FAILURE}
use Rattle.sshc_wire.specs.declared.channel_record.ChannelRecord.TheVariants as happened
use Rattle.sshc_wire.specs.Reads.{number_at, text_at}
use Rattle.sshc_wire.specs.Reasons.{disconnect_of}
use Rattle.std.specs.Int.{w32}
use Rattle.sshc_transport.specs.declared.exchange.ExchangeFlag.{ExchangeFlag}
use Rattle.sshc_transport.specs.declared.exchange.ExchangeFlag.TheVariants.{Idle, Ours, Peer}
use Rattle.sshc_auth_event.specs.declared.event.Event.{Event}
use Rattle.sshc_auth_event.specs.declared.event.Event.TheVariants as events
use Rattle.sshc_auth.specs.declared.ended.Ended.TheVariants.{RemoteDisconnect}
use Rattle.sshc_auth.specs.declared.error.Error.TheVariants.{Inconsistent, InvalidDisconnect, Pending, TransportFailed}
use Rattle.sshc_auth.specs.OpeningTable.Exchange.{has_kept_key}
use Rattle.sshc_auth.specs.OpeningTable.Packets.{is_ignored, is_too_much, waits_for_exchange}
use Rattle.sshc_client_packets.specs.HostKeyProof.{Accepts}
use Rattle.sshc_client_table.specs.SessionState.{SessionState}
use Rattle.sshc_client_table.specs.Moves.{Begins, Counts, Hears, Move}
use Rattle.sshc_client_table.specs.SessionRow.{Opinions, SessionRow, behind_moves, ending, passed_over, plain_row, refused, with_read}
use Rattle.sshc_client_table.specs.SessionTable.Exchanges.{exchange_done_row, peer_kexinit_row}
use Rattle.sshc_client_table.specs.SessionTable.Opens.{channel_open_row, open_confirmation_row, open_failure_row}
use Rattle.sshc_client_table.specs.SessionTable.Streams.{channel_close_row, channel_data_row, channel_extended_data_row, channel_report_row, window_adjust_row}
use Rattle.sshc_client_table.specs.SessionTable.Requests.{channel_request_row, global_request_row}
use Rattle.sshc_client_table.specs.SessionTable.Replies.{request_failure_row, request_success_row}
use Rattle.sshc_client_table.specs.SessionTable.Users.{user_row}
use Rattle.sshc_client_table.specs.SessionTable.Timers.{inactivity_timer_row, keepalive_timer_row}

-- 1, DISCONNECT (RFC 4253, section 11.1): a reason from 1 to 15, a text and its language; the bytes after them are
-- ignored
abbrev pub reason_row : Option Disconnect → List ℕ → SessionRow
reason_row None rest = refused InvalidDisconnect
reason_row (Some reason) rest =
    with_read (text_at rest) (λ message.
    with_read (text_at message.1) (λ language.
    ending [] (RemoteDisconnect (record { reason_code = reason; message = message.0; lang_tag = language.0 }))))

unfoldable pub disconnect_row : List ℕ → SessionRow
disconnect_row body = with_read (number_at w32 body) (λ code. reason_row (disconnect_of code.0) code.1)

-- a packet by its number; an unknown one is ignored
unfoldable pub numbered_row : Accepts → Opinions → SessionState → ℕ → List ℕ → SessionRow
numbered_row accepts o s number body =
    if number == GLOBAL_REQUEST then global_request_row body
    else if number == REQUEST_SUCCESS then request_success_row accepts s body
    else if number == REQUEST_FAILURE then request_failure_row s body
    else if number == CHANNEL_OPEN then channel_open_row o s body
    else if number == CHANNEL_OPEN_CONFIRMATION then open_confirmation_row s body
    else if number == CHANNEL_OPEN_FAILURE then open_failure_row s body
    else if number == CHANNEL_WINDOW_ADJUST then window_adjust_row s body
    else if number == CHANNEL_DATA then channel_data_row o s body
    else if number == CHANNEL_EXTENDED_DATA then channel_extended_data_row o s body
    else if number == CHANNEL_EOF then channel_report_row s happened.Eof body
    else if number == CHANNEL_CLOSE then channel_close_row s body
    else if number == CHANNEL_REQUEST then channel_request_row s body
    else if number == CHANNEL_SUCCESS then channel_report_row s happened.Success body
    else if number == CHANNEL_FAILURE then channel_report_row s happened.Failure body
    else passed_over

-- packets from 50 on may not come while the peer's exchange runs, and are counted while ours runs (RFC 4253, section
-- 7.1)
abbrev pub held_row : ExchangeFlag → SessionState → ℕ → SessionRow → SessionRow
held_row Idle s len row = row
held_row Ours s len row = if is_too_much s.opening len then refused Pending else behind_moves (Counts len ∷ []) row
held_row Peer s len row = refused Inconsistent

-- whatever comes from the peer counts as heard; for a global request its row decides
abbrev pub heard : ℕ → List Move
heard number = if number == GLOBAL_REQUEST then [] else Hears ∷ []

abbrev pub packet_row : Accepts → Opinions → SessionState → ℕ → ℕ → List ℕ → SessionRow
packet_row accepts o s len number body =
    if is_ignored number then passed_over
    else if waits_for_exchange number then held_row s.opening.flag s len (numbered_row accepts o s number body)
    else numbered_row accepts o s number body

-- an empty packet is ignored, and doesn't count as heard
unfoldable pub payload_row : Accepts → Opinions → SessionState → List ℕ → SessionRow
payload_row accepts o s [] = passed_over
payload_row accepts o s (number ∷ body) =
    if number == DISCONNECT then disconnect_row body
    else behind_moves (heard number) (packet_row accepts o s (length (number ∷ body)) number body)

-- the row of an event in an open session
unfoldable pub session_row : Accepts → Opinions → SessionState → Event → SessionRow
session_row accepts o s events.PeerKexinit = peer_kexinit_row s.opening.flag
session_row accepts o s (events.ExchangeDone x) = exchange_done_row s.opening.flag (has_kept_key s.opening x) x
session_row accepts o s (events.Payload packet) = payload_row accepts o s packet
session_row accepts o s events.TransportFailed = refused TransportFailed
session_row accepts o s events.RekeyLimit = plain_row (Begins ∷ [])
session_row accepts o s events.KeepaliveTimer = keepalive_timer_row s
session_row accepts o s events.InactivityTimer = inactivity_timer_row s
session_row accepts o s event = user_row s event
