-- Reading a packet agrees with its grammar.
use Rattle.std.proofs.Common.{◌≡◌, ℕ, List, [], ◌++◌, Some, Ok, refl, sym, ap, subst, ◌∙◌, append_assoc}
use Rattle.std.proofs.lemmas.List.{append-nil}
use Rattle.sshc_wire.specs.FormatLaws.{bind_ok, ok_is}
use Rattle.sshc_wire.specs.Grammar.{IsGrammar, IsWholeGrammar, IsFlag}
use Rattle.sshc_wire.specs.GrammarLaws.{of_format, flags, in_row, made_of, faults_seen, finishing}
use Rattle.sshc_wire.specs.PartsLaws.{strings, texts, number32, a_byte}
use Rattle.sshc_wire.specs.Reads.{Reader, number_at, string_at, text_at}
use Rattle.sshc_wire.specs.declared.channel_open_failure.ChannelOpenFailure.{ChannelOpenFailure}
use Rattle.sshc_wire.specs.declared.channel_record.ServerOpen.TheVariants as opens
use Rattle.sshc_wire.specs.declared.error.WireError.TheVariants.{Trailing}
use Rattle.std.specs.Int.{w32}
use Rattle.sshc_client_packets.specs.declared.error.PacketError.TheVariants.{SshEncoding}
use Rattle.sshc_client_packets.specs.declared.peer_request.PeerRequest.TheVariants.{ExitStatus, Keepalive, XonXoff}
use Rattle.sshc_client_packets.specs.ChannelPackets.{channel_at, channel_of, confirmation_of, data_of, extended_data_of, reason_of, refusal_of, sender_at, window_adjust_of}
use Rattle.sshc_wire.specs.Wire.{string_text, u32_text}
use Rattle.std.proofs.lemmas.Nat.{from_be_bytes-to_be_bytes_4}
use Rattle.sshc_client_packets.specs.ChannelOpens.{ChannelOpen, Session, X11, DirectTcpIp, DirectStreamLocal, open_fields, open_type}
use Rattle.sshc_client_packets.specs.Grammars.Channels.{ChannelPacketsAreRead, IsChannel, IsConfirmation, IsData, IsExtendedData, IsRefusal, IsSender, IsWindowAdjust}
use Rattle.sshc_client_packets.specs.Grammars.Requests.{IsExitSignal, IsExitStatus, IsKeepalive, IsXonXoff, RequestsAreRead}
use Rattle.sshc_client_packets.specs.Grammars.Opens.{IsAddress, IsDirectStreamLocal, IsDirectTcpIp, IsForwardedStreamLocal, IsForwardedTcpIp, IsX11, IsWords, IsU32, OpenFits, OpensAreRead, WrittenOpensAreRead, WrittenPortsAreRead, opened}
use Rattle.sshc_client_packets.specs.Parts.{IsByte, IsNumber, IsString, IsText, Leads, as_encoding, flag_at, leading_at, u32_at, u8_at, words_at}
use Rattle.sshc_client_packets.specs.PeerOpens.{address_at, direct_streamlocal_at, direct_tcpip_at, forwarded_streamlocal_at, forwarded_tcpip_at, server_open_at, server_open_of, x11_at}
use Rattle.sshc_client_packets.specs.PeerRequests.{exit_signal_of, exit_status_of, keepalive_of, peer_request_of, xon_xoff_of}

-- ---- parts

a_number : IsGrammar IsNumber (number_at w32)
a_number = of_format number32

a_text : IsGrammar IsText text_at
a_text = of_format texts

a_string : IsGrammar IsString string_at
a_string = of_format strings

pub a_u8 : IsGrammar IsByte u8_at
unfolding u8_at
a_u8 = faults_seen as_encoding (of_format a_byte)

pub a_u32 : IsGrammar IsNumber u32_at
unfolding u32_at
a_u32 = faults_seen as_encoding (of_format number32)

pub some_words : IsGrammar IsText words_at
unfolding words_at
some_words = faults_seen as_encoding (of_format texts)

pub a_flag : IsGrammar IsFlag flag_at
unfolding flag_at
a_flag = faults_seen as_encoding flags

-- a value at the front; the bytes after it are ignored
pub let_pass : {E A : Type 0} {S : A → List ℕ → Type 0} {f : Reader E A} → IsGrammar S f → IsWholeGrammar (Leads S) (leading_at f)
let_pass {E} {A} {S} {f} p = record {
  takes = λ bytes x fits e.
      let a = bind_ok (f bytes) (λ y. Ok y.0) x e in
      let first = p.takes bytes a.0.0 a.0.1 fits a.1 in
      (first.0, a.0.1, first.1, subst (λ (y : A). S y first.0) (ok_is {E = E} a.0.0 x a.2) first.2);
  again = λ x bytes h.
      let one : f bytes ≡ Ok (x, h.1) = ap f h.2 ∙ p.again x h.0 h.1 h.3 in
      rw one refl;
}

-- ---- packets on a channel

a_channel : IsGrammar IsChannel channel_at
unfolding channel_at
a_channel = made_of (λ n. record { 0 = n }) IsChannel (λ a bytes h. h) (λ id bytes h. (id.0, refl, h)) a_number

a_sender : IsGrammar IsSender sender_at
unfolding sender_at
a_sender =
    made_of (λ x. record { channel = x.0; window_size = x.1.0; max_packet_size = x.1.1 }) IsSender (λ a bytes h. h)
    (λ s bytes h. ((s.channel, (s.window_size, s.max_packet_size)), refl, h)) (in_row a_number (in_row a_number a_number))

channel_whole : IsWholeGrammar IsChannel channel_of
unfolding channel_of
channel_whole = finishing Trailing a_channel

confirmation_whole : IsWholeGrammar IsConfirmation confirmation_of
unfolding confirmation_of
confirmation_whole =
    finishing Trailing
    (made_of (λ x. record { recipient = x.0; sender = x.1 }) IsConfirmation (λ a bytes h. h)
    (λ c bytes h. ((c.recipient, c.sender), refl, h)) (in_row a_number a_sender))

refusal_whole : IsWholeGrammar IsRefusal refusal_of
unfolding refusal_of
refusal_whole =
    finishing Trailing
    (made_of (λ x. record { id = x.0; reason = reason_of x.1.0; description = x.1.1.0; language = x.1.1.1 }) IsRefusal
    (λ a bytes h. (a.1.0, refl, h))
    (λ r bytes h. ((r.id, (h.0, (r.description, r.language))), ap (λ (reason : ChannelOpenFailure). record r { reason = reason }) h.1, h.2))
    (in_row a_channel (in_row a_number (in_row a_text a_text))))

window_adjust_whole : IsWholeGrammar IsWindowAdjust window_adjust_of
unfolding window_adjust_of
window_adjust_whole =
    finishing Trailing
    (made_of (λ x. record { id = x.0; bytes_to_add = x.1 }) IsWindowAdjust (λ a bytes h. h)
    (λ w bytes h. ((w.id, w.bytes_to_add), refl, h)) (in_row a_channel a_number))

data_whole : IsWholeGrammar IsData data_of
unfolding data_of
data_whole =
    finishing Trailing
    (made_of (λ x. record { id = x.0; body = x.1 }) IsData (λ a bytes h. h)
    (λ d bytes h. ((d.id, d.body), refl, h)) (in_row a_channel a_string))

extended_data_whole : IsWholeGrammar IsExtendedData extended_data_of
unfolding extended_data_of
extended_data_whole =
    finishing Trailing
    (made_of (λ x. record { id = x.0; ext = x.1.0; body = x.1.1 }) IsExtendedData (λ a bytes h. h)
    (λ d bytes h. ((d.id, (d.ext, d.body)), refl, h)) (in_row a_channel (in_row a_number a_string)))

pub channel_packets : ChannelPacketsAreRead
channel_packets = record {
  channel = channel_whole;
  confirmation = confirmation_whole;
  refusal = refusal_whole;
  window_adjust = window_adjust_whole;
  data_bytes = data_whole;
  extended_data = extended_data_whole;
}

-- ---- requests on a channel

xon_xoff_whole : IsWholeGrammar IsXonXoff xon_xoff_of
unfolding xon_xoff_of
xon_xoff_whole =
    finishing SshEncoding
    (made_of (λ x. XonXoff x.1) IsXonXoff (λ a bytes h. (a.0, a.1, refl, h)) (λ r bytes h. ((h.0, h.1), h.2, h.3)) (in_row a_u8 a_flag))

exit_status_whole : IsWholeGrammar IsExitStatus exit_status_of
unfolding exit_status_of
exit_status_whole =
    finishing SshEncoding
    (made_of (λ x. ExitStatus x.1) IsExitStatus (λ a bytes h. (a.0, a.1, refl, h)) (λ r bytes h. ((h.0, h.1), h.2, h.3)) (in_row a_u8 a_u32))

exit_signal_whole : IsWholeGrammar IsExitSignal exit_signal_of
unfolding exit_signal_of
exit_signal_whole =
    finishing SshEncoding
    (made_of _ IsExitSignal (λ a bytes h. (a.0, a.1.1.0, a.1.0, a.1.1.1.0, a.1.1.1.1, refl, h))
    (λ r bytes h. ((h.0, (h.2, (h.1, (h.3, h.4)))), h.5, h.6)) (in_row a_u8 (in_row some_words (in_row a_flag (in_row some_words some_words)))))

keepalive_whole : IsWholeGrammar IsKeepalive keepalive_of
unfolding keepalive_of
keepalive_whole =
    finishing SshEncoding (made_of (λ x. Keepalive x) IsKeepalive (λ a bytes h. (a, refl, h)) (λ r bytes h. (h.0, h.1, h.2)) a_flag)

pub requests : RequestsAreRead
unfolding peer_request_of
requests = record {
  xon_xoff = xon_xoff_whole;
  exit_status = exit_status_whole;
  exit_signal = exit_signal_whole;
  keepalive = keepalive_whole;
}

-- ---- opens

an_address : IsGrammar IsAddress address_at
unfolding address_at
an_address = in_row some_words a_u32

an_x11 : IsGrammar IsX11 x11_at
unfolding x11_at
an_x11 = made_of (λ x. opens.X11 x.0 x.1) IsX11 (λ a bytes h. (a.0, a.1, refl, h)) (λ o bytes h. ((h.0, h.1), h.2, h.3)) an_address

a_direct_tcpip : IsGrammar IsDirectTcpIp direct_tcpip_at
unfolding direct_tcpip_at
a_direct_tcpip =
    made_of (λ x. opens.DirectTcpIp x.0.0 x.0.1 x.1.0 x.1.1) IsDirectTcpIp (λ a bytes h. (a.0, a.1, refl, h))
    (λ o bytes h. ((h.0, h.1), h.2, h.3)) (in_row an_address an_address)

a_forwarded_tcpip : IsGrammar IsForwardedTcpIp forwarded_tcpip_at
unfolding forwarded_tcpip_at
a_forwarded_tcpip =
    made_of (λ x. opens.ForwardedTcpIp x.0.0 x.0.1 x.1.0 x.1.1) IsForwardedTcpIp (λ a bytes h. (a.0, a.1, refl, h))
    (λ o bytes h. ((h.0, h.1), h.2, h.3)) (in_row an_address an_address)

a_direct_streamlocal : IsGrammar IsDirectStreamLocal direct_streamlocal_at
unfolding direct_streamlocal_at
a_direct_streamlocal =
    made_of (λ x. opens.DirectStreamLocal x) IsDirectStreamLocal (λ a bytes h. (a, refl, h)) (λ o bytes h. (h.0, h.1, h.2)) some_words

a_forwarded_streamlocal : IsGrammar IsForwardedStreamLocal forwarded_streamlocal_at
unfolding forwarded_streamlocal_at
a_forwarded_streamlocal =
    made_of (λ x. opens.ForwardedStreamLocal x) IsForwardedStreamLocal (λ a bytes h. (a, refl, h)) (λ o bytes h. (h.0, h.1, h.2)) some_words

pub server_opens : OpensAreRead
unfolding server_open_of server_open_at
server_opens = record {
  x11 = let_pass an_x11;
  direct_tcpip = let_pass a_direct_tcpip;
  forwarded_tcpip = let_pass a_forwarded_tcpip;
  direct_streamlocal = let_pass a_direct_streamlocal;
  forwarded_streamlocal = let_pass a_forwarded_streamlocal;
  session = λ bytes. refl;
  agent = λ bytes. refl;
}

-- ---- what is written is read

an_address_text : (text : List ℕ) (port : ℕ) → IsWords text × IsU32 port → IsAddress (text, port) (string_text text ++ u32_text port)
an_address_text text port fits = (string_text text, u32_text port, refl, (refl, fits.0), (refl, fits.1))

streamlocal_is : (path : List ℕ) → IsWords path → leading_at direct_streamlocal_at (string_text path ++ string_text [] ++ u32_text 0) ≡ Ok (opens.DirectStreamLocal path)
streamlocal_is path fits =
    (let_pass a_direct_streamlocal).again (opens.DirectStreamLocal path) (string_text path ++ string_text [] ++ u32_text 0)
    (string_text path, string_text [] ++ u32_text 0, append_assoc (string_text path) (string_text []) (u32_text 0), (path, refl, (refl, fits)))

opened_is : (asked : ChannelOpen) → OpenFits asked → server_open_of (open_type asked) (open_fields asked) ≡ Ok (opened asked)
unfolding server_open_of server_open_at
opened_is Session fits = refl
opened_is (X11 originator port) fits =
    (let_pass an_x11).again (opens.X11 originator port) (string_text originator ++ u32_text port)
    (string_text originator ++ u32_text port, [], sym (append-nil _), (originator, port, refl, an_address_text originator port fits))
opened_is (DirectTcpIp host port originator originator_port) fits =
    (let_pass a_direct_tcpip).again (opens.DirectTcpIp host port originator originator_port) _ (
      string_text host ++ u32_text port ++ string_text originator ++ u32_text originator_port,
      [],
      sym (append-nil _),
      (
        (host, port),
        (originator, originator_port),
        refl,
        (
          string_text host ++ u32_text port,
          string_text originator ++ u32_text originator_port,
          append_assoc (string_text host ++ u32_text port) (string_text originator) (u32_text originator_port),
          an_address_text host port fits.0,
          an_address_text originator originator_port fits.1,
        ),
      ),
    )
opened_is (DirectStreamLocal path) fits = streamlocal_is path fits

pub written_opens : WrittenOpensAreRead
written_opens asked fits = opened_is asked fits

pub written_ports : WrittenPortsAreRead
unfolding u32_text
written_ports port small = ap (λ (n : ℕ). Some n) (from_be_bytes-to_be_bytes_4 port small)
