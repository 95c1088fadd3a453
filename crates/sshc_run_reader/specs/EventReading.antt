-- Reading an event's fields, part after part, up to the first that can't be read; no bytes may remain at the end.
-- Readings of the whole bytes; the code moves a cursor. A law says that this reads exactly the grammar (EventFields).
use Rattle.std.specs.Prelude.{ℕ, Bool, true, false, ◌&&◌, List, [], ◌∷◌, Option, Some, None, Result, Ok, Err, nat_le, ◌==◌, if◌then◌else◌, is_some}
use Rattle.sshc_wire.specs.Format.{both_at, made_at, chosen_at, no_bytes_at}
use Rattle.sshc_wire.specs.Grammar.{converted_at, finished, finished_at}
use Rattle.sshc_wire.specs.Reads.{Reader}
use Rattle.sshc_wire.specs.Signals.{signal_of}
use Rattle.sshc_wire.specs.Whole.{WholeReader}
use Rattle.sshc_wire.specs.declared.channel_open_failure.ChannelOpenFailure.{ChannelOpenFailure}
use Rattle.sshc_wire.specs.declared.ticket.Ticket.{Ticket}
use Rattle.sshc_key.specs.Algorithms.{kept_hash}
use Rattle.sshc_transport.specs.declared.exchange.ExchangeKey.{ExchangeKey}
use Rattle.sshc_transport.specs.declared.exchange.ExchangeKey.TheVariants as exchange_keys
use Rattle.sshc_transport.specs.declared.exchange.ExchangeResult.{ExchangeResult}
use Rattle.sshc_transport.specs.declared.exchange.ExchangeNames.{ExchangeNames}
use Rattle.sshc_auth_event.specs.declared.channel_msg.ChannelMsg.{ChannelMsg}
use Rattle.sshc_auth_event.specs.declared.channel_msg.ChannelMsg.TheVariants as msgs
use Rattle.sshc_auth_event.specs.declared.event.Event.{Event}
use Rattle.sshc_auth_event.specs.declared.event.Event.TheVariants as events
use Rattle.sshc_auth_event.specs.declared.method.Method.{Method}
use Rattle.sshc_auth_event.specs.declared.method.Method.TheVariants as methods
use Rattle.sshc_auth_event.specs.HostKey.{host_key}
use Rattle.sshc_run_reader.specs.declared.channel_sort.ChannelSort.{ChannelSort}
use Rattle.sshc_run_reader.specs.declared.channel_sort.ChannelSort.TheVariants as channel_sorts
use Rattle.sshc_run_reader.specs.declared.error.EventError.{EventError}
use Rattle.sshc_run_reader.specs.declared.error.EventError.TheVariants.{Bad}
use Rattle.sshc_run_reader.specs.declared.event_kind.EventKind.{EventKind}
use Rattle.sshc_run_reader.specs.declared.event_kind.EventKind.TheVariants as kinds
use Rattle.sshc_run_reader.specs.declared.method_sort.MethodSort.{MethodSort}
use Rattle.sshc_run_reader.specs.declared.method_sort.MethodSort.TheVariants as method_sorts
use Rattle.sshc_run_reader.specs.EventParts.{u8_at, u32_at, flag_at, octets_at, words_at, ticket_at, channel_at, strings_at, texts_at, modes_at, hash_at, reason_at, failure_at, method_sort_at, channel_sort_at, token_at, key_at, certificate_at, pair_field_at, keys_at}

-- ---- an exchange

-- a key is a whole blob of its sort
abbrev pub readable : ExchangeKey → Result ExchangeKey EventError
readable key = if is_some (host_key key) then Ok key else Err Bad

abbrev pub missing : List ℕ → Result ExchangeKey EventError
missing [] = Ok exchange_keys.Missing
missing (b ∷ bytes) = Err Bad

abbrev pub key_of_sort : ℕ × List ℕ → Result ExchangeKey EventError
key_of_sort (sort, blob) =
    if sort == 0 then missing blob
    else (if sort == 1 then readable (exchange_keys.Key blob)
    else (if sort == 2 then readable (exchange_keys.Certificate blob) else Err Bad))

unfoldable pub exchange_key_at : Reader EventError ExchangeKey
exchange_key_at bytes = converted_at key_of_sort (both_at u8_at octets_at) bytes

abbrev pub no_secret : List ℕ → Result (Option (List ℕ)) EventError
no_secret [] = Ok None
no_secret (b ∷ bytes) = Err Bad

abbrev pub secret_of : Bool × List ℕ → Result (Option (List ℕ)) EventError
secret_of (true, body) = Ok (Some body)
secret_of (false, body) = no_secret body

unfoldable pub secret_at : Reader EventError (Option (List ℕ))
secret_at bytes = converted_at secret_of (both_at flag_at octets_at) bytes

unfoldable pub names_at : Reader EventError ExchangeNames
names_at bytes =
    made_at (λ x. record { kex = x.0; key = x.1.0; cipher = x.1.1.0; client_mac = x.1.1.1.0; server_mac = x.1.1.1.1.0; strict_kex = x.1.1.1.1.1 })
    (both_at words_at (both_at words_at (both_at words_at (both_at words_at (both_at words_at flag_at))))) bytes

unfoldable pub exchange_at : Reader EventError ExchangeResult
exchange_at bytes =
    made_at (λ x. record { key = x.0; session_hash = x.1.0; signature = x.1.1.0; secret = x.1.1.1.0; names = x.1.1.1.1 })
    (both_at exchange_key_at (both_at octets_at (both_at octets_at (both_at secret_at names_at)))) bytes

-- ---- a packet

abbrev pub is_exchange_number : ℕ → Bool
is_exchange_number number = nat_le 20 number && nat_le number 49

abbrev pub packet_of : WholeReader EventError (List ℕ)
packet_of [] = Ok []
packet_of (number ∷ body) = if is_exchange_number number then Err Bad else Ok (number ∷ body)

abbrev pub as_payload : Result (List ℕ) EventError → Result Event EventError
as_payload (Ok packet) = Ok (events.Payload packet)
as_payload (Err e) = Err e

-- ---- a method

unfoldable pub hashed_pair_at : Reader EventError Method
hashed_pair_at bytes = made_at (λ x. methods.PublicKey (x.0, kept_hash x.0.public.0 x.1)) (both_at pair_field_at hash_at) bytes

abbrev pub method_fields_at : MethodSort → Reader EventError Method
method_fields_at method_sorts.Nothing bytes = no_bytes_at methods.None bytes
method_fields_at method_sorts.Password bytes = made_at (λ x. methods.Password x) words_at bytes
method_fields_at method_sorts.PublicKey bytes = hashed_pair_at bytes
method_fields_at method_sorts.OpenSshCertificate bytes = made_at (λ x. methods.OpenSshCertificate x.0 x.1) (both_at pair_field_at certificate_at) bytes
method_fields_at method_sorts.FuturePublicKey bytes = made_at (λ x. methods.FuturePublicKey x.0 x.1) (both_at key_at hash_at) bytes
method_fields_at method_sorts.FutureCertificate bytes = made_at (λ x. methods.FutureCertificate x.0 x.1) (both_at certificate_at hash_at) bytes
method_fields_at method_sorts.KeyboardInteractive bytes = made_at (λ x. methods.KeyboardInteractive x) words_at bytes
method_fields_at method_sorts.GssapiWithMic bytes = made_at (λ x. methods.GssapiWithMic x) strings_at bytes

unfoldable pub method_at : Reader EventError Method
method_at bytes = chosen_at method_sort_at method_fields_at bytes

-- ---- what is asked of a channel

unfoldable pub size_at : Reader EventError (ℕ × (ℕ × (ℕ × ℕ)))
size_at bytes = both_at u32_at (both_at u32_at (both_at u32_at u32_at)) bytes

unfoldable pub pty_at : Reader EventError ChannelMsg
pty_at bytes =
    made_at (λ x. msgs.RequestPty x.0 x.1.0 x.1.1.0.0 x.1.1.0.1.0 x.1.1.0.1.1.0 x.1.1.0.1.1.1 x.1.1.1)
    (both_at flag_at (both_at words_at (both_at size_at modes_at))) bytes

unfoldable pub window_change_at : Reader EventError ChannelMsg
window_change_at bytes = made_at (λ x. msgs.WindowChange x.0 x.1.0 x.1.1.0 x.1.1.1) size_at bytes

unfoldable pub x11_at : Reader EventError ChannelMsg
x11_at bytes =
    made_at (λ x. msgs.RequestX11 x.0 x.1.0 x.1.1.0 x.1.1.1.0 x.1.1.1.1) (both_at flag_at (both_at flag_at (both_at words_at (both_at words_at u32_at)))) bytes

unfoldable pub env_at : Reader EventError ChannelMsg
env_at bytes = made_at (λ x. msgs.SetEnv x.0 x.1.0 x.1.1) (both_at flag_at (both_at words_at words_at)) bytes

abbrev pub msg_fields_at : ChannelSort → Reader EventError ChannelMsg
msg_fields_at channel_sorts.Data bytes = made_at (λ x. msgs.Data x) octets_at bytes
msg_fields_at channel_sorts.ExtendedData bytes = made_at (λ x. msgs.ExtendedData x.0 x.1) (both_at u32_at octets_at) bytes
msg_fields_at channel_sorts.Eof bytes = no_bytes_at msgs.Eof bytes
msg_fields_at channel_sorts.Close bytes = no_bytes_at msgs.Close bytes
msg_fields_at channel_sorts.RequestPty bytes = pty_at bytes
msg_fields_at channel_sorts.WindowChange bytes = window_change_at bytes
msg_fields_at channel_sorts.RequestX11 bytes = x11_at bytes
msg_fields_at channel_sorts.SetEnv bytes = env_at bytes
msg_fields_at channel_sorts.RequestShell bytes = made_at (λ x. msgs.RequestShell x) flag_at bytes
msg_fields_at channel_sorts.Exec bytes = made_at (λ x. msgs.Exec x.0 x.1) (both_at flag_at octets_at) bytes
msg_fields_at channel_sorts.Signal bytes = made_at (λ x. msgs.Signal (signal_of x)) words_at bytes
msg_fields_at channel_sorts.RequestSubsystem bytes = made_at (λ x. msgs.RequestSubsystem x.0 x.1) (both_at flag_at words_at) bytes
msg_fields_at channel_sorts.AgentForward bytes = made_at (λ x. msgs.AgentForward x) flag_at bytes

unfoldable pub msg_at : Reader EventError ChannelMsg
msg_at bytes = chosen_at channel_sort_at msg_fields_at bytes

abbrev pub reply_of : Bool → ChannelOpenFailure → Result (Unit {0}) ChannelOpenFailure
reply_of true reason = Ok tt
reply_of false reason = Err reason

unfoldable pub open_reply_at : Reader EventError (Result (Unit {0}) ChannelOpenFailure)
open_reply_at bytes = made_at (λ x. reply_of x.0 x.1) (both_at flag_at failure_at) bytes

-- ---- the fields of each kind

unfoldable pub authenticate_at : Reader EventError Event
authenticate_at bytes = made_at (λ x. events.Authenticate x.0 x.1.0 x.1.1) (both_at ticket_at (both_at words_at method_at)) bytes

unfoldable pub gssapi_mic_at : Reader EventError Event
gssapi_mic_at bytes = made_at (λ x. events.AuthGssapiMic x.0 x.1) (both_at token_at octets_at) bytes

unfoldable pub named_at : Reader EventError (Ticket × List ℕ)
named_at bytes = both_at ticket_at words_at bytes

unfoldable pub addressed_at : Reader EventError (Ticket × (List ℕ × ℕ))
addressed_at bytes = both_at ticket_at (both_at words_at u32_at) bytes

unfoldable pub direct_tcpip_at : Reader EventError Event
direct_tcpip_at bytes =
    made_at (λ x. events.ChannelOpenDirectTcpIp x.0 x.1.0 x.1.1.0 x.1.1.1.0 x.1.1.1.1) (both_at ticket_at (both_at words_at (both_at u32_at (both_at words_at u32_at)))) bytes

unfoldable pub disconnect_at : Reader EventError Event
disconnect_at bytes = made_at (λ x. events.Disconnect x.0 x.1.0 x.1.1) (both_at reason_at (both_at words_at words_at)) bytes

unfoldable pub channel_event_at : Reader EventError Event
channel_event_at bytes = made_at (λ x. events.Channel x.0 x.1) (both_at channel_at msg_at) bytes

unfoldable pub server_open_reply_at : Reader EventError Event
server_open_reply_at bytes = made_at (λ x. events.ServerChannelOpenReply x.0 x.1) (both_at channel_at open_reply_at) bytes

unfoldable pub global_request_at : Reader EventError Event
global_request_at bytes = made_at (λ x. events.SendGlobalRequest x.0 x.1.0 x.1.1) (both_at ticket_at (both_at words_at octets_at)) bytes

unfoldable pub tcpip_forward_of : WholeReader EventError Event
tcpip_forward_of bytes = finished_at Bad (made_at (λ x. events.TcpIpForward x.0 x.1.0 x.1.1) addressed_at) bytes

unfoldable pub cancel_tcpip_forward_of : WholeReader EventError Event
cancel_tcpip_forward_of bytes = finished_at Bad (made_at (λ x. events.CancelTcpIpForward x.0 x.1.0 x.1.1) addressed_at) bytes

unfoldable pub streamlocal_forward_of : WholeReader EventError Event
streamlocal_forward_of bytes = finished_at Bad (made_at (λ x. events.StreamLocalForward x.0 x.1) named_at) bytes

unfoldable pub cancel_streamlocal_forward_of : WholeReader EventError Event
cancel_streamlocal_forward_of bytes = finished_at Bad (made_at (λ x. events.CancelStreamLocalForward x.0 x.1) named_at) bytes

unfoldable pub close_of : WholeReader EventError Event
close_of bytes = finished_at Bad (made_at (λ x. events.Close x) channel_at) bytes

unfoldable pub disconnect_of : WholeReader EventError Event
disconnect_of bytes = finished_at Bad disconnect_at bytes

unfoldable pub channel_of : WholeReader EventError Event
channel_of bytes = finished_at Bad channel_event_at bytes

unfoldable pub server_open_reply_of : WholeReader EventError Event
server_open_reply_of bytes = finished_at Bad server_open_reply_at bytes

unfoldable pub await_extension_info_of : WholeReader EventError Event
await_extension_info_of bytes = finished_at Bad (made_at (λ x. events.AwaitExtensionInfo x.0 x.1) named_at) bytes

unfoldable pub get_server_sig_algs_of : WholeReader EventError Event
get_server_sig_algs_of bytes = finished_at Bad (made_at (λ x. events.GetServerSigAlgs x) ticket_at) bytes

unfoldable pub keepalive_of : WholeReader EventError Event
keepalive_of bytes = finished_at Bad (made_at (λ x. events.Keepalive x) flag_at) bytes

unfoldable pub ping_of : WholeReader EventError Event
ping_of bytes = finished_at Bad (made_at (λ x. events.Ping x) ticket_at) bytes

unfoldable pub no_more_sessions_of : WholeReader EventError Event
no_more_sessions_of bytes = finished_at Bad (made_at (λ x. events.NoMoreSessions x) flag_at) bytes

unfoldable pub host_keys_prove_of : WholeReader EventError Event
host_keys_prove_of bytes = finished_at Bad (made_at (λ x. events.HostKeysProve x.0 x.1) (both_at ticket_at keys_at)) bytes

unfoldable pub global_request_of : WholeReader EventError Event
global_request_of bytes = finished_at Bad global_request_at bytes

unfoldable pub exchange_done_of : WholeReader EventError Event
exchange_done_of bytes = finished_at Bad (made_at (λ x. events.ExchangeDone x) exchange_at) bytes

unfoldable pub payload_of : WholeReader EventError Event
payload_of bytes = as_payload (packet_of bytes)

unfoldable pub authenticate_of : WholeReader EventError Event
authenticate_of bytes = finished_at Bad authenticate_at bytes

unfoldable pub info_response_of : WholeReader EventError Event
info_response_of bytes = finished_at Bad (made_at (λ x. events.AuthInfoResponse x) texts_at) bytes

unfoldable pub gssapi_token_of : WholeReader EventError Event
gssapi_token_of bytes = finished_at Bad (made_at (λ x. events.AuthGssapiToken x) octets_at) bytes

unfoldable pub gssapi_mic_of : WholeReader EventError Event
gssapi_mic_of bytes = finished_at Bad gssapi_mic_at bytes

unfoldable pub gssapi_complete_of : WholeReader EventError Event
gssapi_complete_of bytes = finished_at Bad (made_at (λ x. events.AuthGssapiExchangeComplete x) token_at) bytes

unfoldable pub signed_of : WholeReader EventError Event
signed_of bytes = finished_at Bad (made_at (λ x. events.Signed x) octets_at) bytes

unfoldable pub open_session_of : WholeReader EventError Event
open_session_of bytes = finished_at Bad (made_at (λ x. events.ChannelOpenSession x) ticket_at) bytes

unfoldable pub open_x11_of : WholeReader EventError Event
open_x11_of bytes = finished_at Bad (made_at (λ x. events.ChannelOpenX11 x.0 x.1.0 x.1.1) addressed_at) bytes

unfoldable pub open_direct_tcpip_of : WholeReader EventError Event
open_direct_tcpip_of bytes = finished_at Bad direct_tcpip_at bytes

unfoldable pub open_direct_streamlocal_of : WholeReader EventError Event
open_direct_streamlocal_of bytes = finished_at Bad (made_at (λ x. events.ChannelOpenDirectStreamLocal x.0 x.1) named_at) bytes

-- what the user asks, other than authentication and opening channels; other kinds are `Bad`
unfoldable pub request_of : EventKind → WholeReader EventError Event
request_of kinds.TcpIpForward bytes = tcpip_forward_of bytes
request_of kinds.CancelTcpIpForward bytes = cancel_tcpip_forward_of bytes
request_of kinds.StreamLocalForward bytes = streamlocal_forward_of bytes
request_of kinds.CancelStreamLocalForward bytes = cancel_streamlocal_forward_of bytes
request_of kinds.Close bytes = close_of bytes
request_of kinds.Disconnect bytes = disconnect_of bytes
request_of kinds.Channel bytes = channel_of bytes
request_of kinds.ServerChannelOpenReply bytes = server_open_reply_of bytes
request_of kinds.Rekey bytes = finished Bad (events.Rekey, bytes)
request_of kinds.AwaitExtensionInfo bytes = await_extension_info_of bytes
request_of kinds.GetServerSigAlgs bytes = get_server_sig_algs_of bytes
request_of kinds.Keepalive bytes = keepalive_of bytes
request_of kinds.Ping bytes = ping_of bytes
request_of kinds.NoMoreSessions bytes = no_more_sessions_of bytes
request_of kinds.HostKeysProve bytes = host_keys_prove_of bytes
request_of kinds.SendGlobalRequest bytes = global_request_of bytes
request_of kinds.Gone bytes = finished Bad (events.Gone, bytes)
request_of kind bytes = Err Bad

-- the session's event of this kind and these fields; an agent's kinds are `Bad`
unfoldable pub event_of : EventKind → WholeReader EventError Event
event_of kinds.PeerKexinit bytes = finished Bad (events.PeerKexinit, bytes)
event_of kinds.ExchangeDone bytes = exchange_done_of bytes
event_of kinds.Payload bytes = payload_of bytes
event_of kinds.TransportFailed bytes = finished Bad (events.TransportFailed, bytes)
event_of kinds.RekeyLimit bytes = finished Bad (events.RekeyLimit, bytes)
event_of kinds.KeepaliveTimer bytes = finished Bad (events.KeepaliveTimer, bytes)
event_of kinds.InactivityTimer bytes = finished Bad (events.InactivityTimer, bytes)
event_of kinds.Authenticate bytes = authenticate_of bytes
event_of kinds.AuthInfoResponse bytes = info_response_of bytes
event_of kinds.AuthGssapiToken bytes = gssapi_token_of bytes
event_of kinds.AuthGssapiMic bytes = gssapi_mic_of bytes
event_of kinds.AuthGssapiExchangeComplete bytes = gssapi_complete_of bytes
event_of kinds.Signed bytes = signed_of bytes
event_of kinds.SignFailed bytes = finished Bad (events.SignFailed, bytes)
event_of kinds.ChannelOpenSession bytes = open_session_of bytes
event_of kinds.ChannelOpenX11 bytes = open_x11_of bytes
event_of kinds.ChannelOpenDirectTcpIp bytes = open_direct_tcpip_of bytes
event_of kinds.ChannelOpenDirectStreamLocal bytes = open_direct_streamlocal_of bytes
event_of kind bytes = request_of kind bytes
