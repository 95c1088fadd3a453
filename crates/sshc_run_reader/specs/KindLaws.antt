-- What is read as an event of a kind is an event of that kind.
use Rattle.std.proofs.Common.{◌≡◌, ℕ, Bool, true, false, List, [], ◌∷◌, Result, Ok, Err, cond, refl}
use Rattle.sshc_wire.specs.Grammar.{finished}
use Rattle.sshc_wire.specs.Reads.{◌>>=◌}
use Rattle.sshc_auth_event.specs.declared.event.Event.{Event}
use Rattle.sshc_run_reader.specs.declared.error.EventError.{EventError}
use Rattle.sshc_run_reader.specs.declared.error.EventError.TheVariants.{Bad}
use Rattle.sshc_run_reader.specs.declared.event_kind.EventKind.{EventKind}
use Rattle.sshc_run_reader.specs.declared.event_kind.EventKind.TheVariants as kinds
use Rattle.sshc_run_reader.specs.EventFields.{kind_of}
use Rattle.sshc_run_reader.specs.EventReading.{as_payload, is_exchange_number, packet_of, event_of, request_of, payload_of, exchange_done_of, authenticate_of, authenticate_at, info_response_of, gssapi_token_of, gssapi_mic_of, gssapi_mic_at, gssapi_complete_of, signed_of, open_session_of, open_x11_of, open_direct_tcpip_of, direct_tcpip_at, open_direct_streamlocal_of, tcpip_forward_of, cancel_tcpip_forward_of, streamlocal_forward_of, cancel_streamlocal_forward_of, close_of, disconnect_of, disconnect_at, channel_of, channel_event_at, server_open_reply_of, server_open_reply_at, await_extension_info_of, get_server_sig_algs_of, keepalive_of, ping_of, no_more_sessions_of, host_keys_prove_of, global_request_of, global_request_at}

-- what was read is of this kind
abbrev pub ReadAs : EventKind → Result Event EventError → Type 0
ReadAs kind (Ok e) = kind_of e ≡ kind
ReadAs kind (Err e) = Unit {0}

-- an event that is made of its fields
made_as : {A : Type 0} (kind : EventKind) (make : A × List ℕ → Event) (read : Result (A × List ℕ) EventError) →
    ((x : A × List ℕ) → kind_of (make x) ≡ kind) →
    ReadAs kind ((read >>= λ x. Ok (make x, x.1)) >>= λ x. finished Bad x)
made_as kind make (Ok (x, [])) each = each (x, [])
made_as kind make (Ok (x, (b ∷ rest))) each = tt
made_as kind make (Err e) each = tt

alone_as : (kind : EventKind) (e : Event) (bytes : List ℕ) → kind_of e ≡ kind → ReadAs kind (finished Bad (e, bytes))
alone_as kind e [] is = is
alone_as kind e (b ∷ rest) is = tt

payload_as : (bytes : List ℕ) → ReadAs kinds.Payload (as_payload (packet_of bytes))
payload_as [] = refl
payload_as (number ∷ body) = early (is_exchange_number number)
  where
    early : (b : Bool) → ReadAs kinds.Payload (as_payload (cond b (Err Bad) (Ok (number ∷ body))))
    early true = tt
    early false = refl

-- what is read as an event of a kind is of that kind
pub read_as : (kind : EventKind) (bytes : List ℕ) → ReadAs kind (event_of kind bytes)
unfolding event_of request_of payload_of exchange_done_of authenticate_of authenticate_at info_response_of gssapi_token_of gssapi_mic_of gssapi_mic_at gssapi_complete_of signed_of open_session_of open_x11_of open_direct_tcpip_of direct_tcpip_at open_direct_streamlocal_of tcpip_forward_of cancel_tcpip_forward_of streamlocal_forward_of cancel_streamlocal_forward_of close_of disconnect_of disconnect_at channel_of channel_event_at server_open_reply_of server_open_reply_at await_extension_info_of get_server_sig_algs_of keepalive_of ping_of no_more_sessions_of host_keys_prove_of global_request_of global_request_at
read_as kinds.PeerKexinit bytes = alone_as _ _ bytes refl
read_as kinds.TransportFailed bytes = alone_as _ _ bytes refl
read_as kinds.RekeyLimit bytes = alone_as _ _ bytes refl
read_as kinds.KeepaliveTimer bytes = alone_as _ _ bytes refl
read_as kinds.InactivityTimer bytes = alone_as _ _ bytes refl
read_as kinds.SignFailed bytes = alone_as _ _ bytes refl
read_as kinds.Rekey bytes = alone_as _ _ bytes refl
read_as kinds.Gone bytes = alone_as _ _ bytes refl
read_as kinds.Payload bytes = payload_as bytes
read_as kinds.AgentBytes bytes = tt
read_as kinds.AgentRequestAnswer bytes = tt
read_as kinds.AgentKeyAnswer bytes = tt
read_as kinds.AgentClose bytes = tt
read_as kind bytes = made_as _ _ _ (λ x. refl)
