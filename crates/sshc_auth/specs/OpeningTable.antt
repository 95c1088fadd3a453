-- The opening table: a row for each event, by phase and flag (RFC 4252; RFC 4253, sections 7 and 10), in the order of
-- its tests:
-- out of turn; the answers that are awaited; then by kind, packets by number and phase. By cases on plain data; each
-- row has its name in the code.
pub mod Order
pub mod Exchange
pub mod Transport
pub mod Packets
pub mod ExtInfo
pub mod Service
pub mod Auth
pub mod AuthKey
pub mod AuthPrompts
pub mod AuthGssapi
pub mod User
pub mod Awaiting
use Rattle.std.specs.Prelude.{◌≡◌, ℕ, ◌+◌, Bool, true, false, List, [], ◌∷◌, length, Option, Some, None, ◌==◌, if◌then◌else◌}
use Rattle.sshc_wire.specs.Reads.{text_at}
use Rattle.sshc_wire.specs.MessageNumbers.{DISCONNECT, EXT_INFO, USERAUTH_FAILURE, USERAUTH_SUCCESS, USERAUTH_BANNER, USERAUTH_PK_OK, USERAUTH_GSSAPI_TOKEN, USERAUTH_GSSAPI_ERROR, USERAUTH_GSSAPI_ERRTOK}
use Rattle.sshc_wire.specs.declared.resolution.Resolution.TheVariants.{Denied}
use Rattle.sshc_wire.specs.declared.ticket.Ticket.{Ticket}
use Rattle.sshc_key.specs.declared.identity.PublicKeyOrCertificate.{PublicKeyOrCertificate}
use Rattle.sshc_key.specs.Asking.{Asking, done}
use Rattle.sshc_auth_event.specs.declared.event.Event.{Event}
use Rattle.sshc_auth_event.specs.declared.event.Event.TheVariants as events
use Rattle.sshc_auth_event.specs.declared.method.Method.{Method}
use Rattle.sshc_auth_event.specs.HostKey.{host_key}
use Rattle.sshc_transport.specs.declared.exchange.ExchangeFlag.{ExchangeFlag}
use Rattle.sshc_transport.specs.declared.exchange.ExchangeFlag.TheVariants as flags
use Rattle.sshc_transport.specs.declared.exchange.ExchangeResult.{ExchangeResult}
use Rattle.sshc_auth.specs.declared.error.Error.TheVariants.{OutOfTurn, Inconsistent, Pending, NotAuthenticated}
use Rattle.sshc_auth.specs.declared.opening.Class.{Class}
use Rattle.sshc_auth.specs.declared.opening.Class.TheVariants as classes
use Rattle.sshc_auth.specs.declared.opening.Phase.{Phase}
use Rattle.sshc_auth.specs.declared.opening.Phase.TheVariants as phases
use Rattle.sshc_auth.specs.declared.step.Asks.{Asks}
use Rattle.sshc_auth.specs.declared.step.Asks.TheVariants as asking
use Rattle.sshc_auth.specs.declared.step.Told.{Told}
use Rattle.sshc_auth.specs.declared.step.Told.TheVariants as tells
use Rattle.sshc_auth.specs.OpeningState.{OpeningState, is_awaiting}
use Rattle.sshc_auth.specs.Row.{Row, goes, passed_over, refused, with_part}
use Rattle.sshc_auth.specs.OpeningTable.Order.{is_out_of_turn, packet_in}
use Rattle.sshc_auth.specs.OpeningTable.Exchange.{peer_kexinit_row, exchange_done_row, has_kept_key}
use Rattle.sshc_auth.specs.OpeningTable.Transport.{transport_failed_row, inactivity_timer_row}
use Rattle.sshc_auth.specs.OpeningTable.Packets.{disconnect_row, is_ignored, waits_for_exchange, is_too_much, counted_with}
use Rattle.sshc_auth.specs.OpeningTable.ExtInfo.{ext_info_row}
use Rattle.sshc_auth.specs.OpeningTable.Service.{service_packet_row, authenticate_first_row}
use Rattle.sshc_auth.specs.OpeningTable.Auth.{userauth_failure_row, userauth_success_row, userauth_banner_row, authenticate_again_row}
use Rattle.sshc_auth.specs.OpeningTable.AuthKey.{pk_ok_row, taken}
use Rattle.sshc_auth.specs.OpeningTable.AuthPrompts.{info_request_row}
use Rattle.sshc_auth.specs.OpeningTable.AuthGssapi.{gssapi_response_row, gssapi_token_row, gssapi_error_row, gssapi_errtok_row, user_token_row, user_mic_row, user_complete_row}
use Rattle.sshc_auth.specs.OpeningTable.User.{answered_row, rekey_row, await_extension_info_row, get_server_sig_algs_row, host_keys_answer, user_disconnect_row, gone_row}
use Rattle.sshc_auth.specs.OpeningTable.Awaiting.{awaiting_row}

-- ---- packets of phase Auth

-- 60 is another message for each class of method; for the other classes it only clears the stored method
unfoldable pub answer_row : Class → OpeningState → List ℕ → Row
answer_row classes.Prompts s body = info_request_row s body
answer_row classes.Gssapi s body = gssapi_response_row s body
answer_row class s body = goes [] (taken s)

-- 61, 64 and 65 belong to GSSAPI
unfoldable pub gssapi_row : Class → OpeningState → ℕ → List ℕ → Row
gssapi_row classes.Gssapi s number body =
    if number == USERAUTH_GSSAPI_TOKEN then gssapi_token_row s body
    else (if number == USERAUTH_GSSAPI_ERROR then gssapi_error_row s body
    else (if number == USERAUTH_GSSAPI_ERRTOK then gssapi_errtok_row s body
    else refused Inconsistent))
gssapi_row class s number body = refused Inconsistent

unfoldable pub auth_row : OpeningState → ℕ → List ℕ → Row
auth_row s number body =
    if number == USERAUTH_FAILURE then userauth_failure_row s body
    else (if number == USERAUTH_SUCCESS then userauth_success_row s body
    else (if number == USERAUTH_BANNER then userauth_banner_row s body
    else (if number == USERAUTH_PK_OK then answer_row s.class s body
    else (if number == EXT_INFO then ext_info_row s body
    else gssapi_row s.class s number body))))

abbrev pub is_pk_ok : Class → ℕ → Bool
is_pk_ok classes.Key number = number == USERAUTH_PK_OK
is_pk_ok class number = false

unfoldable pub auth_packet_row : OpeningState → ℕ → List ℕ → Asking Row
auth_packet_row s number body = if is_pk_ok s.class number then pk_ok_row s body else done (auth_row s number body)

-- ---- packets

abbrev pub packet_row_in : Phase → OpeningState → ℕ → List ℕ → Asking Row
packet_row_in phases.Service s number body = done (service_packet_row s number body)
packet_row_in phases.Auth s number body = auth_packet_row s number body
packet_row_in phase s number body = done (passed_over s)

abbrev pub phase_packet_row : OpeningState → ℕ → List ℕ → Asking Row
phase_packet_row s number body = packet_row_in s.phase s number body

-- a packet from 50 on may not come once the peer has begun an exchange, and is counted while one of ours runs
unfoldable pub held_packet_row : ExchangeFlag → OpeningState → ℕ → ℕ → List ℕ → Asking Row
held_packet_row flags.Idle s len number body = phase_packet_row s number body
held_packet_row flags.Peer s len number body = done (refused Inconsistent)
held_packet_row flags.Ours s len number body =
    if is_too_much s len then done (refused Pending) else phase_packet_row (record s { counted = counted_with s len }) number body

abbrev pub is_exchanging : Phase → Bool
is_exchanging phases.Exchanging = true
is_exchanging phase = false

-- a packet of so many bytes
unfoldable pub numbered_row : OpeningState → ℕ → ℕ → List ℕ → Asking Row
numbered_row s len number body =
    if number == DISCONNECT then done (disconnect_row body)
    else (if is_ignored number then done (passed_over s)
    else (if is_exchanging s.phase then done (passed_over s)
    else (if waits_for_exchange number then held_packet_row s.flag s len number body
    else phase_packet_row s number body)))

-- an empty packet is ignored
unfoldable pub payload_row : OpeningState → List ℕ → Asking Row
payload_row s [] = done (passed_over s)
payload_row s (number ∷ body) = numbered_row s (length body + 1) number body

-- ---- the other events

-- a request to authenticate by its phase
abbrev pub authenticate_row_in : Phase → OpeningState → Ticket → List ℕ → Method → Row
authenticate_row_in phases.Service s ticket user method = authenticate_first_row s ticket user method
authenticate_row_in phases.Auth s ticket user method = authenticate_again_row s ticket user method
authenticate_row_in phase s ticket user method = passed_over s

-- what needs an open session: channels are refused, and other requests denied
unfoldable pub unopened_row : OpeningState → Event → Row
unopened_row s (events.ChannelOpenSession ticket) = refused NotAuthenticated
unopened_row s (events.ChannelOpenX11 ticket address port) = refused NotAuthenticated
unopened_row s (events.ChannelOpenDirectTcpIp ticket host port address own) = refused NotAuthenticated
unopened_row s (events.ChannelOpenDirectStreamLocal ticket path) = refused NotAuthenticated
unopened_row s (events.TcpIpForward ticket address port) = answered_row s ticket Denied
unopened_row s (events.CancelTcpIpForward ticket address port) = answered_row s ticket Denied
unopened_row s (events.StreamLocalForward ticket path) = answered_row s ticket Denied
unopened_row s (events.CancelStreamLocalForward ticket path) = answered_row s ticket Denied
unopened_row s (events.Ping ticket) = answered_row s ticket Denied
unopened_row s (events.SendGlobalRequest ticket name body) = answered_row s ticket Denied
unopened_row s (events.HostKeysProve ticket keys) = answered_row s ticket (host_keys_answer keys)
unopened_row s event = passed_over s

-- the user's events
unfoldable pub user_row : OpeningState → Event → Row
user_row s (events.Authenticate ticket user method) = authenticate_row_in s.phase s ticket user method
user_row s (events.AuthGssapiToken token) = user_token_row s token
user_row s (events.AuthGssapiMic token code) = user_mic_row s token code
user_row s (events.AuthGssapiExchangeComplete token) = user_complete_row s token
user_row s (events.Disconnect reason description language) = user_disconnect_row reason description language
user_row s events.Rekey = rekey_row s
user_row s (events.AwaitExtensionInfo ticket name) = await_extension_info_row s ticket name
user_row s (events.GetServerSigAlgs ticket) = get_server_sig_algs_row s ticket
user_row s events.Gone = gone_row
user_row s event = unopened_row s event

-- the row of an event that is no packet, once it may come and no answer is awaited
unfoldable pub plain_row : OpeningState → Event → Told → Row
plain_row s events.PeerKexinit told = peer_kexinit_row s
plain_row s (events.ExchangeDone x) told = exchange_done_row s x told
plain_row s events.TransportFailed told = transport_failed_row
plain_row s events.InactivityTimer told = inactivity_timer_row s
plain_row s event told = user_row s event

abbrev pub event_row : OpeningState → Event → Told → Option (List ℕ) → Asking Row
event_row s event told (Some packet) = payload_row s packet
event_row s event told None = done (plain_row s event told)

-- once it may come
abbrev pub turn_row : Bool → OpeningState → Event → Told → Asking Row
turn_row true s event told = done (awaiting_row s event)
turn_row false s event told = event_row s event told (packet_in event)

-- the row of an event, with what the gate returned, by what the signer returns
unfoldable pub open_row : OpeningState → Event → Told → Asking Row
open_row s event told = if is_out_of_turn s event then done (refused OutOfTurn) else turn_row (is_awaiting s.phase) s event told

-- ---- what a row asks of the gate

-- the first exchange asks for its host key, if it has one
abbrev pub key_asked : Option PublicKeyOrCertificate → Asks
key_asked None = asking.Nothing
key_asked (Some key) = asking.HostKey key

-- a later exchange asks for no key, and for nothing where its host key isn't the first exchange's
abbrev pub exchange_asks : Phase → OpeningState → ExchangeResult → Asks
exchange_asks phases.Exchanging s x = key_asked (host_key x.key)
exchange_asks phase s x = if has_kept_key s x then asking.Exchange else asking.Nothing

-- a banner is passed to the gate if its row isn't refused
abbrev pub banner_at_end : List ℕ → List ℕ → Asks
banner_at_end banner [] = asking.Banner banner
banner_at_end banner (b ∷ left) = asking.Nothing

abbrev pub banner_asks : List ℕ → Asks
banner_asks body =
    with_part asking.Nothing (text_at body) (λ banner rest.
    with_part asking.Nothing (text_at rest) (λ language left.
    banner_at_end banner left))

-- a packet from 50 on that is refused, whatever it is
abbrev pub is_held_back : ExchangeFlag → OpeningState → ℕ → Bool
is_held_back flags.Idle s len = false
is_held_back flags.Peer s len = true
is_held_back flags.Ours s len = is_too_much s len

abbrev pub number_asks : Phase → OpeningState → ℕ → ℕ → List ℕ → Asks
number_asks phases.Auth s len number body =
    if number == USERAUTH_BANNER then (if is_held_back s.flag s len then asking.Nothing else banner_asks body) else asking.Nothing
number_asks phase s len number body = asking.Nothing

abbrev pub packet_asks : OpeningState → List ℕ → Asks
packet_asks s [] = asking.Nothing
packet_asks s (number ∷ body) = number_asks s.phase s (length body + 1) number body

abbrev pub event_asks : OpeningState → Event → Asks
event_asks s (events.ExchangeDone x) = exchange_asks s.phase s x
event_asks s (events.Payload packet) = packet_asks s packet
event_asks s event = asking.Nothing

-- the calls of the gate that the event's row makes; none once the opening is closed, and none out of turn
unfoldable pub asked_of : OpeningState → Event → Asks
asked_of s event = if s.closed then asking.Nothing else (if is_out_of_turn s event then asking.Nothing else event_asks s event)

-- how many host keys the gate is asked about: one at most
abbrev pub keys_asked : Asks → ℕ
keys_asked (asking.HostKey key) = 1
keys_asked asks = 0

-- what the gate returned fits what it was asked
abbrev pub FitsAsked : Asks → Told → Type 0
FitsAsked asking.Nothing told = told ≡ tells.NotAsked
FitsAsked (asking.HostKey key) tells.NotAsked = ⊥
FitsAsked (asking.HostKey key) told = Unit {0}
FitsAsked asks told = told ≡ tells.Went
