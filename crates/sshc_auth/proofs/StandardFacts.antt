-- A password login step by step, computed from the rows: two exchanges of packets, and the session is open. And
-- extensions.
use Rattle.std.proofs.Common.{◌≡◌, ℕ, true, false, List, [], ◌∷◌, Some, None, refl}
use Rattle.std.specs.Prelude.{codes}
use Rattle.sshc_wire.specs.Reads.{number_at, string_at}
use Rattle.sshc_wire.specs.Wire.{u32_text, string_text}
use Rattle.sshc_wire.specs.declared.record.Record.TheVariants.{KexDone, Payload, Resolved, Opened}
use Rattle.sshc_wire.specs.declared.resolution.Resolution.TheVariants.{AuthSuccess, Dropped, ExtInfoSeen}
use Rattle.sshc_key.specs.Asking.{done}
use Rattle.sshc_auth.specs.declared.error.Error.TheVariants.{OutOfTurn, UnknownKey, RekeyKey, Inconsistent, SshEncoding}
use Rattle.sshc_auth_event.specs.declared.event.Event.TheVariants as events
use Rattle.sshc_transport.specs.declared.exchange.ExchangeFlag.TheVariants as flags
use Rattle.sshc_transport.specs.declared.exchange.ExchangeKey.{ExchangeKey}
use Rattle.sshc_transport.specs.declared.exchange.ExchangeKey.TheVariants.{Certificate, Key, Missing}
use Rattle.sshc_transport.specs.declared.exchange.ExchangeResult.{ExchangeResult}
use Rattle.sshc_auth_event.specs.declared.method.Method.{Method}
use Rattle.sshc_auth_event.specs.declared.method.Method.TheVariants.{Password}
use Rattle.sshc_auth.specs.declared.opening.Phase.TheVariants as phases
use Rattle.sshc_auth.specs.declared.opening.Settings.{Settings}
use Rattle.sshc_auth.specs.declared.step.Asks.TheVariants as asking
use Rattle.sshc_auth.specs.declared.step.Told.TheVariants as telling
use Rattle.sshc_auth.specs.OpeningState.{OpeningState, start}
use Rattle.sshc_auth.specs.OpeningTable.{open_row, plain_row, user_row, payload_row, numbered_row, held_packet_row, auth_packet_row, auth_row, asked_of}
use Rattle.sshc_auth.specs.OpeningTable.Exchange.{peer_kexinit_row, exchange_done_row}
use Rattle.sshc_auth.specs.OpeningTable.ExtInfo.{ext_info_row, extensions_row}
use Rattle.sshc_auth.specs.OpeningTable.Service.{authenticate_first_row, service_packet_row, service_accept_row}
use Rattle.sshc_auth.specs.OpeningTable.Auth.{answered, userauth_success_row, authenticate_again_row}
use Rattle.sshc_auth_request.specs.RequestTexts.{service_request, request}
use Rattle.sshc_auth.specs.Row.{goes, refused, passed_over, opens}

abbrev settings : Settings
settings = record { window_size = 2097152; anonymous = false; inactivity = false }

-- an exchange with the hash `session-id`; only the gate looks at its host key
abbrev exchange : ExchangeResult
exchange = record {
  key = Missing;
  session_hash = codes "session-id";
  signature = [];
  secret = None;
  names = record { kex = codes "curve25519-sha256"; key = []; cipher = []; client_mac = []; server_mac = []; strict_kex = false };
}

abbrev password : Method
password = Password (codes "pw")

abbrev accepted : List ℕ
accepted = 6 ∷ string_text (codes "ssh-userauth")

-- ---- the states in between

abbrev exchanging : OpeningState
exchanging = record (start settings) { flag = flags.Peer }

abbrev in_service : OpeningState
in_service = record (start settings) { phase = phases.Service; flag = flags.Idle; session_id = codes "session-id" }

abbrev requested : OpeningState
requested = record in_service { requested = true; ticket = record { 0 = 1 }; user = codes "alice"; method = Some password }

abbrev in_auth : OpeningState
in_auth = record requested { phase = phases.Auth }

-- ---- the login

-- the peer's KEXINIT answers ours
kexinit : open_row (start settings) events.PeerKexinit telling.NotAsked ≡ done (goes [] exchanging)
unfolding open_row plain_row user_row payload_row numbered_row held_packet_row peer_kexinit_row exchange_done_row authenticate_first_row authenticate_again_row service_packet_row service_accept_row auth_packet_row auth_row userauth_success_row
kexinit = refl

-- the host key is accepted
exchanged : open_row exchanging (events.ExchangeDone exchange) telling.Went ≡ done (goes (KexDone (codes "curve25519-sha256") ∷ []) in_service)
unfolding open_row plain_row user_row payload_row numbered_row held_packet_row peer_kexinit_row exchange_done_row authenticate_first_row authenticate_again_row service_packet_row service_accept_row auth_packet_row auth_row userauth_success_row
exchanged = refl

-- the service is asked for, and the request waits
asked : open_row in_service (events.Authenticate (record { 0 = 1 }) (codes "alice") password) telling.NotAsked ≡ done (goes (Payload service_request ∷ []) requested)
unfolding open_row plain_row user_row payload_row numbered_row held_packet_row peer_kexinit_row exchange_done_row authenticate_first_row authenticate_again_row service_packet_row service_accept_row auth_packet_row auth_row userauth_success_row
asked = refl

-- the service is there, and the password is written
served : open_row requested (events.Payload accepted) telling.NotAsked ≡ done (goes (Payload (request (codes "alice") password) ∷ []) in_auth)
unfolding open_row plain_row user_row payload_row numbered_row held_packet_row peer_kexinit_row exchange_done_row authenticate_first_row authenticate_again_row service_packet_row service_accept_row auth_packet_row auth_row userauth_success_row string_at number_at string_text u32_text
served = refl

-- the user is authenticated
logged_in : open_row in_auth (events.Payload (52 ∷ [])) telling.NotAsked ≡ done (record { records = Resolved (record { 0 = 1 }) AuthSuccess ∷ Opened ∷ []; next = opens (record (answered in_auth) { phase = phases.Open }) })
unfolding open_row plain_row user_row payload_row numbered_row held_packet_row peer_kexinit_row exchange_done_row authenticate_first_row authenticate_again_row service_packet_row service_accept_row auth_packet_row auth_row userauth_success_row
logged_in = refl

-- ---- refusals

-- without a host key the gate isn't asked, and the session is refused
keyless_asks : asked_of exchanging (events.ExchangeDone exchange) ≡ asking.Nothing
unfolding asked_of
keyless_asks = refl

keyless : open_row exchanging (events.ExchangeDone exchange) telling.NotAsked ≡ done (refused UnknownKey)
unfolding open_row plain_row user_row payload_row numbered_row held_packet_row peer_kexinit_row exchange_done_row authenticate_first_row authenticate_again_row service_packet_row service_accept_row auth_packet_row auth_row userauth_success_row
keyless = refl

-- the gate rejects the host key
unaccepted : open_row exchanging (events.ExchangeDone exchange) telling.No ≡ done (refused UnknownKey)
unfolding open_row plain_row user_row payload_row numbered_row held_packet_row peer_kexinit_row exchange_done_row authenticate_first_row authenticate_again_row service_packet_row service_accept_row auth_packet_row auth_row userauth_success_row
unaccepted = refl

-- a second KEXINIT, an exchange without one, and a request while an exchange runs
twice : open_row exchanging events.PeerKexinit telling.NotAsked ≡ done (refused OutOfTurn)
unfolding open_row plain_row user_row payload_row numbered_row held_packet_row peer_kexinit_row exchange_done_row authenticate_first_row authenticate_again_row service_packet_row service_accept_row auth_packet_row auth_row userauth_success_row
twice = refl

undone : open_row (start settings) (events.ExchangeDone exchange) telling.NotAsked ≡ done (refused OutOfTurn)
unfolding open_row plain_row user_row payload_row numbered_row held_packet_row peer_kexinit_row exchange_done_row authenticate_first_row authenticate_again_row service_packet_row service_accept_row auth_packet_row auth_row userauth_success_row
undone = refl

early : open_row (start settings) (events.Authenticate (record { 0 = 1 }) (codes "alice") password) telling.NotAsked ≡ done (refused OutOfTurn)
unfolding open_row plain_row user_row payload_row numbered_row held_packet_row peer_kexinit_row exchange_done_row authenticate_first_row authenticate_again_row service_packet_row service_accept_row auth_packet_row auth_row userauth_success_row
early = refl

-- the service is accepted before it was asked for; another service is ignored; a byte follows the success
unasked : open_row in_service (events.Payload accepted) telling.NotAsked ≡ done (refused Inconsistent)
unfolding open_row plain_row user_row payload_row numbered_row held_packet_row peer_kexinit_row exchange_done_row authenticate_first_row authenticate_again_row service_packet_row service_accept_row auth_packet_row auth_row userauth_success_row
unasked = refl

other_service : open_row requested (events.Payload (6 ∷ string_text (codes "ssh-connection"))) telling.NotAsked ≡ done (passed_over requested)
unfolding open_row plain_row user_row payload_row numbered_row held_packet_row peer_kexinit_row exchange_done_row authenticate_first_row authenticate_again_row service_packet_row service_accept_row auth_packet_row auth_row userauth_success_row string_at number_at string_text u32_text
other_service = refl

left_over : open_row in_auth (events.Payload (52 ∷ 0 ∷ [])) telling.NotAsked ≡ done (refused SshEncoding)
unfolding open_row plain_row user_row payload_row numbered_row held_packet_row peer_kexinit_row exchange_done_row authenticate_first_row authenticate_again_row service_packet_row service_accept_row auth_packet_row auth_row userauth_success_row
left_over = refl

-- a second request drops the first one's ticket and is written at once
again : open_row in_auth (events.Authenticate (record { 0 = 2 }) (codes "bob") password) telling.NotAsked
    ≡ done (goes (Resolved (record { 0 = 1 }) Dropped ∷ Payload (request (codes "bob") password) ∷ []) (record in_auth { ticket = record { 0 = 2 }; user = codes "bob"; method = Some password }))
unfolding open_row plain_row user_row payload_row numbered_row held_packet_row peer_kexinit_row exchange_done_row authenticate_first_row authenticate_again_row service_packet_row service_accept_row auth_packet_row auth_row userauth_success_row
again = refl

-- ---- later exchanges

abbrev keyed : ExchangeKey → ExchangeResult
keyed key = record exchange { key = key }

abbrev rekeying : OpeningState
rekeying = record in_service { host_key = Key (1 ∷ []); flag = flags.Peer }

-- one with the same host key goes on; one with another, without one, or with a certificate is refused
same_key : open_row rekeying (events.ExchangeDone (keyed (Key (1 ∷ [])))) telling.Went ≡ done (goes (KexDone (codes "curve25519-sha256") ∷ []) (record in_service { host_key = Key (1 ∷ []) }))
unfolding open_row plain_row exchange_done_row
same_key = refl

other_key : open_row rekeying (events.ExchangeDone (keyed (Key (2 ∷ [])))) telling.NotAsked ≡ done (refused RekeyKey)
unfolding open_row plain_row exchange_done_row
other_key = refl

no_key : open_row rekeying (events.ExchangeDone exchange) telling.NotAsked ≡ done (refused RekeyKey)
unfolding open_row plain_row exchange_done_row
no_key = refl

certified : open_row rekeying (events.ExchangeDone (keyed (Certificate (1 ∷ [])))) telling.NotAsked ≡ done (refused RekeyKey)
unfolding open_row plain_row exchange_done_row
certified = refl

-- and of the gate it asks nothing
other_asks : asked_of rekeying (events.ExchangeDone (keyed (Key (2 ∷ [])))) ≡ asking.Nothing
unfolding asked_of
other_asks = refl

-- ---- extensions (RFC 8308)

abbrev waits : OpeningState
waits = record in_service { waiters = (record { ticket = record { 0 = 9 }; extension_name = codes "x" }) ∷ [] }

-- a waiter's ticket is resolved when its extension comes
answered_when_seen : extensions_row waits ((record { name = codes "x"; sig_algs = None }) ∷ [])
    ≡ goes (Resolved (record { 0 = 9 }) ExtInfoSeen ∷ []) (record in_service { ext_infos = 1; seen = codes "x" ∷ [] })
answered_when_seen = refl

-- a waiter for another extension keeps waiting
waits_on : extensions_row waits ((record { name = codes "y"; sig_algs = None }) ∷ []) ≡ goes [] (record waits { ext_infos = 1; seen = codes "y" ∷ [] })
waits_on = refl

-- a third EXT_INFO is refused, whatever it contains
third : open_row (record in_auth { ext_infos = 2 }) (events.Payload (7 ∷ [])) telling.NotAsked ≡ done (refused Inconsistent)
unfolding open_row plain_row user_row payload_row numbered_row held_packet_row auth_packet_row auth_row ext_info_row
third = refl
