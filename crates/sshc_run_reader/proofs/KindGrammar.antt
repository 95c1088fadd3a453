-- Reading the fields of each kind of event agrees with their grammar.
use Rattle.std.proofs.Common.{◌≡◌, ◌↔◌, ℕ, zero, suc, Bool, true, false, List, [], ◌∷◌, Option, Result, Ok, Err, refl, sym, ap, subst, arith, cond}
use Rattle.std.specs.Prelude.{is_some}
use Rattle.std.proofs.lemmas.Bool.Decides.{nat_tests}
use Rattle.sshc_wire.specs.Format.{done, made_at}
use Rattle.sshc_wire.specs.Grammar.{IsGrammar, InRow, Converted, finished, finished_at}
use Rattle.sshc_wire.specs.GrammarLaws.{in_row, made_of, converted, tagged, finishing, spelled_so}
use Rattle.sshc_wire.specs.Reads.{Reader}
use Rattle.sshc_wire.specs.Wire.{IsBytes}
use Rattle.sshc_wire.specs.declared.hash_alg.HashAlg.{HashAlg}
use Rattle.sshc_transport.specs.declared.exchange.ExchangeKey.{ExchangeKey}
use Rattle.sshc_transport.specs.declared.exchange.ExchangeKey.TheVariants as exchange_keys
use Rattle.sshc_auth_event.specs.HostKey.{host_key}
use Rattle.sshc_auth_event.specs.declared.event.Event.{Event}
use Rattle.sshc_auth_event.specs.declared.event.Event.TheVariants as events
use Rattle.sshc_auth_event.specs.declared.method.Method.{Method}
use Rattle.sshc_auth_event.specs.declared.method.Method.TheVariants as methods
use Rattle.sshc_run_reader.specs.declared.error.EventError.{EventError}
use Rattle.sshc_run_reader.specs.declared.error.EventError.TheVariants.{Bad}
use Rattle.sshc_run_reader.specs.declared.event_kind.EventKind.{EventKind}
use Rattle.sshc_run_reader.specs.declared.method_sort.MethodSort.{MethodSort}
use Rattle.sshc_run_reader.specs.declared.method_sort.MethodSort.TheVariants as method_sorts
use Rattle.sshc_run_reader.specs.EventParts.{IsU8, IsString}
use Rattle.sshc_run_reader.specs.EventFields.{IsExchangeKey, IsExchange, IsMethodFields, IsMethod, method_sort, IsFields, kind_of}
use Rattle.sshc_run_reader.specs.EventReading.{key_of_sort, exchange_key_at, exchange_at, is_exchange_number, as_payload, packet_of, hashed_pair_at, method_fields_at, method_at, event_of, request_of, payload_of, exchange_done_of, authenticate_of, authenticate_at, info_response_of, gssapi_token_of, gssapi_mic_of, gssapi_mic_at, gssapi_complete_of, signed_of, open_session_of, open_x11_of, open_direct_tcpip_of, direct_tcpip_at, open_direct_streamlocal_of, tcpip_forward_of, cancel_tcpip_forward_of, streamlocal_forward_of, cancel_streamlocal_forward_of, close_of, disconnect_of, disconnect_at, channel_of, channel_event_at, server_open_reply_of, server_open_reply_at, await_extension_info_of, get_server_sig_algs_of, keepalive_of, ping_of, no_more_sessions_of, host_keys_prove_of, global_request_of, global_request_at}
use Rattle.sshc_run_reader.specs.KindLaws.{ReadAs, read_as}
use Rattle.sshc_run_reader.proofs.EventGrammar.{parts, ok_so, made_so, ReadsOne, one_made, one_of, self, one_alone, Sorted, made_sorted, by_sort}
use Rattle.sshc_run_reader.proofs.MsgGrammar.{a_msg}
open parts use {a_string, a_text, a_u32, a_u8, a_flag, a_ticket, a_channel, a_hash, a_reason, a_method_sort, a_token, a_key, a_certificate, a_pair, some_strings, some_texts, some_keys, a_secret, some_names, an_open_reply, a_named, an_address}

-- ---- an exchange

tested : (b : Bool) (key found : ExchangeKey) → cond b (Ok key) (Err Bad) ≡ Ok found →
    (b ≡ true) × (done {E = EventError} key ≡ done found)
tested true key found e = (refl, e)
tested false key found e = absurd cc

key_there : (key : ExchangeKey) (bytes : List ℕ) → Converted key_of_sort (InRow IsU8 IsString) key bytes → IsExchangeKey key bytes
key_there key bytes ((zero, []), h, e) = ok_so (λ k. IsExchangeKey k bytes) e h
key_there key bytes ((zero, (b ∷ blob)), h, e) = absurd cc
key_there key bytes ((suc zero, blob), h, e) =
    let t = tested (is_some (host_key (exchange_keys.Key blob))) (exchange_keys.Key blob) key e in
    ok_so (λ k. IsExchangeKey k bytes) t.1 (h, t.0)
key_there key bytes ((suc (suc zero), blob), h, e) =
    let t = tested (is_some (host_key (exchange_keys.Certificate blob))) (exchange_keys.Certificate blob) key e in
    ok_so (λ k. IsExchangeKey k bytes) t.1 (h, t.0)
key_there key bytes ((suc (suc (suc n)), blob), h, e) =
    let none : key_of_sort (suc (suc (suc n)), blob) ≡ Err Bad = grind (arith, nat_tests) in absurd cc

key_back : (key : ExchangeKey) (bytes : List ℕ) → IsExchangeKey key bytes → Converted key_of_sort (InRow IsU8 IsString) key bytes
key_back exchange_keys.Missing bytes h = ((0, []), h, refl)
key_back (exchange_keys.Key blob) bytes h = ((1, blob), h.0, rw h.1 refl)
key_back (exchange_keys.Certificate blob) bytes h = ((2, blob), h.0, rw h.1 refl)

an_exchange : IsGrammar IsExchange exchange_at
unfolding exchange_at exchange_key_at
an_exchange =
    made_of _ IsExchange (λ a b h. h)
    (λ x b h. ((x.key, (x.session_hash, (x.signature, (x.secret, x.names)))), refl, h))
    (in_row (spelled_so IsExchangeKey key_there key_back (converted key_of_sort (in_row a_u8 a_string)))
    (in_row a_string (in_row a_string (in_row a_secret some_names))))

-- ---- a method

method_sorted : (sort : MethodSort) (bytes : List ℕ) → Sorted method_sort sort (method_fields_at sort bytes)
unfolding hashed_pair_at
method_sorted method_sorts.Nothing bytes = refl
method_sorted sort bytes = made_sorted _ _ _ _ (λ a. refl)

method_read : (m : Method) → ReadsOne (IsMethodFields m) (method_fields_at (method_sort m)) m
unfolding hashed_pair_at
method_read methods.None = one_alone _
method_read (methods.Password password) = one_of _ IsMethodFields password (λ a b. self) a_text
method_read (methods.PublicKey key) =
    one_made _ IsMethodFields _ (λ a b h. (a.1, h, refl))
    (λ b h. ((key.0, h.0), ap (λ (k : Option HashAlg). methods.PublicKey (key.0, k)) (sym h.2), h.1))
    (in_row a_pair a_hash)
method_read (methods.OpenSshCertificate key cert) =
    one_of _ IsMethodFields (key, cert) (λ a b. self) (in_row a_pair a_certificate)
method_read (methods.FuturePublicKey key hash) = one_of _ IsMethodFields (key, hash) (λ a b. self) (in_row a_key a_hash)
method_read (methods.FutureCertificate cert hash) =
    one_of _ IsMethodFields (cert, hash) (λ a b. self) (in_row a_certificate a_hash)
method_read (methods.KeyboardInteractive names) = one_of _ IsMethodFields names (λ a b. self) a_text
method_read (methods.GssapiWithMic oids) = one_of _ IsMethodFields oids (λ a b. self) some_strings

a_method : IsGrammar IsMethod method_at
unfolding method_at
a_method = tagged method_sort a_method_sort (by_sort method_sort method_fields_at method_sorted method_read)

-- ---- each event

-- an event's fields, and nothing after them, are read from just the bytes that spell them
abbrev Both : Event → (List ℕ → Result Event EventError) → List ℕ → Type 0
Both e read bytes = (IsBytes bytes → read bytes ≡ Ok e → IsFields e bytes) × (IsFields e bytes → read bytes ≡ Ok e)

made : {A : Type 0} {S : A → List ℕ → Type 0} {f : Reader EventError A} (make : A → Event) (x : A) →
    ((a : A) (bytes : List ℕ) → S a bytes ↔ IsFields (make a) bytes) → IsGrammar S f → (bytes : List ℕ) →
    Both (make x) (finished_at Bad (made_at make f)) bytes
made make x same p bytes =
    let g = finishing Bad (made_so make p) in (
      (λ fits e. let h = g.takes bytes (make x) fits e in subst (λ y. IsFields y bytes) h.1 ((same h.0 bytes).0 h.2)),
      (λ h. g.again (make x) bytes (x, refl, (same x bytes).1 h)),
    )

alone : (e : Event) (bytes : List ℕ) →
    (IsBytes bytes → finished Bad (e, bytes) ≡ Ok e → bytes ≡ []) × (bytes ≡ [] → finished Bad (e, bytes) ≡ Ok e)
alone e [] = ((λ fits h. refl), (λ h. refl))
alone e (b ∷ bytes) = ((λ fits h. absurd cc), (λ h. absurd cc))

-- packets of an exchange's own types, 20 to 49, aren't events
payload : (packet bytes : List ℕ) → Both (events.Payload packet) (λ b. as_payload (packet_of b)) bytes
payload packet [] = ((λ fits e. cc), (λ h. rw h refl))
payload packet (number ∷ body) = early (is_exchange_number number) refl
  where
    early : (b : Bool) → is_exchange_number number ≡ b →
        Both (events.Payload packet) (λ bytes. as_payload (cond b (Err Bad) (Ok bytes))) (number ∷ body)
    early true is = ((λ fits e. absurd cc), (λ h. absurd (h.1 (grind (arith, nat_tests)))))
    early false is = ((λ fits e. (cc, λ h. absurd (grind (arith, nat_tests)))), (λ h. rw h.0 refl))

pub event_read : (e : Event) (bytes : List ℕ) → Both e (event_of (kind_of e)) bytes
unfolding event_of request_of payload_of exchange_done_of authenticate_of authenticate_at info_response_of gssapi_token_of gssapi_mic_of gssapi_mic_at gssapi_complete_of signed_of open_session_of open_x11_of open_direct_tcpip_of direct_tcpip_at open_direct_streamlocal_of tcpip_forward_of cancel_tcpip_forward_of streamlocal_forward_of cancel_streamlocal_forward_of close_of disconnect_of disconnect_at channel_of channel_event_at server_open_reply_of server_open_reply_at await_extension_info_of get_server_sig_algs_of keepalive_of ping_of no_more_sessions_of host_keys_prove_of global_request_of global_request_at
event_read (events.ExchangeDone x) = made _ x (λ a b. self) an_exchange
event_read (events.Payload packet) = payload packet
event_read (events.Authenticate ticket user method) =
    made _ (ticket, (user, method)) (λ a b. self) (in_row a_ticket (in_row a_text a_method))
event_read (events.AuthInfoResponse responses) = made _ responses (λ a b. self) some_texts
event_read (events.AuthGssapiToken token) = made _ token (λ a b. self) a_string
event_read (events.AuthGssapiMic token mic) = made _ (token, mic) (λ a b. self) (in_row a_token a_string)
event_read (events.AuthGssapiExchangeComplete token) = made _ token (λ a b. self) a_token
event_read (events.Signed body) = made _ body (λ a b. self) a_string
event_read (events.ChannelOpenSession ticket) = made _ ticket (λ a b. self) a_ticket
event_read (events.ChannelOpenX11 ticket address port) = made _ (ticket, (address, port)) (λ a b. self) an_address
event_read (events.ChannelOpenDirectTcpIp ticket host port originator originator_port) =
    made _ (ticket, (host, (port, (originator, originator_port)))) (λ a b. self)
    (in_row a_ticket (in_row a_text (in_row a_u32 (in_row a_text a_u32))))
event_read (events.ChannelOpenDirectStreamLocal ticket path) = made _ (ticket, path) (λ a b. self) a_named
event_read (events.TcpIpForward ticket address port) = made _ (ticket, (address, port)) (λ a b. self) an_address
event_read (events.CancelTcpIpForward ticket address port) = made _ (ticket, (address, port)) (λ a b. self) an_address
event_read (events.StreamLocalForward ticket path) = made _ (ticket, path) (λ a b. self) a_named
event_read (events.CancelStreamLocalForward ticket path) = made _ (ticket, path) (λ a b. self) a_named
event_read (events.Close id) = made _ id (λ a b. self) a_channel
event_read (events.Disconnect reason description language) =
    made _ (reason, (description, language)) (λ a b. self) (in_row a_reason (in_row a_text a_text))
event_read (events.Channel id msg) = made _ (id, msg) (λ a b. self) (in_row a_channel a_msg)
event_read (events.ServerChannelOpenReply id reply) = made _ (id, reply) (λ a b. self) (in_row a_channel an_open_reply)
event_read (events.AwaitExtensionInfo ticket name) = made _ (ticket, name) (λ a b. self) a_named
event_read (events.GetServerSigAlgs ticket) = made _ ticket (λ a b. self) a_ticket
event_read (events.Keepalive reply) = made _ reply (λ a b. self) a_flag
event_read (events.Ping ticket) = made _ ticket (λ a b. self) a_ticket
event_read (events.NoMoreSessions reply) = made _ reply (λ a b. self) a_flag
event_read (events.HostKeysProve ticket keys) = made _ (ticket, keys) (λ a b. self) (in_row a_ticket some_keys)
event_read (events.SendGlobalRequest ticket name body) =
    made _ (ticket, (name, body)) (λ a b. self) (in_row a_ticket (in_row a_text a_string))
event_read e = alone e

-- reading these fields returns an event exactly if they are that event's fields by the grammar
pub event_just : (kind : EventKind) (bytes : List ℕ) → IsBytes bytes → (e : Event) → (event_of kind bytes ≡ Ok e) ↔ ((kind_of e ≡ kind) × IsFields e bytes)
event_just kind bytes fits e = (
  (λ h.
      let is : kind_of e ≡ kind = subst (ReadAs kind) h (read_as kind bytes) in
      (is, (event_read e bytes).0 fits (subst (λ k. event_of k bytes ≡ Ok e) (sym is) h))),
  (λ h. subst (λ k. event_of k bytes ≡ Ok e) h.0 ((event_read e bytes).1 h.1)),
)
