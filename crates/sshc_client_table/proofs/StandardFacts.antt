-- Worked rows of an open session, computed from the definitions.
use Rattle.std.proofs.Common.{◌≡◌, ℕ, true, false, List, [], ◌∷◌, ◌++◌, Err, Some, None, refl}
use Rattle.std.specs.Prelude.{codes, drop}
use Rattle.sshc_wire.specs.Reads.{number_at, string_at}
use Rattle.sshc_wire.specs.Wire.{bool_text, string_text, u32_text}
use Rattle.sshc_wire.specs.declared.record.Record.TheVariants.{Payload, Resolved}
use Rattle.sshc_wire.specs.declared.channel_open_failure.ChannelOpenFailure.TheVariants.{UnknownChannelType}
use Rattle.sshc_wire.specs.declared.channel_record.ServerOpen.TheVariants.{Unknown}
use Rattle.sshc_wire.specs.declared.resolution.HostKeysFault.TheVariants as faults
use Rattle.sshc_wire.specs.declared.resolution.Resolution.TheVariants.{ChannelOpened, Denied, ForwardPort, Pong}
use Rattle.sshc_wire.specs.declared.ticket.Ticket.{Ticket}
use Rattle.sshc_key.specs.KeyGrammar.{Key}
use Rattle.sshc_transport.specs.declared.exchange.ExchangeFlag.TheVariants.{Idle, Peer}
use Rattle.sshc_transport.specs.declared.exchange.ExchangeResult.{ExchangeResult}
use Rattle.sshc_auth_event.specs.declared.event.Event.TheVariants as events
use Rattle.sshc_auth.specs.declared.error.Error.TheVariants.{Inconsistent, KeepaliveTimeout, OutOfTurn, RekeyKey, SshEncoding}
use Rattle.sshc_auth.specs.declared.opening.Phase.TheVariants.{Open}
use Rattle.sshc_auth.specs.OpeningState.{start}
use Rattle.sshc_mux.specs.ChannelAccount.{no_channels}
use Rattle.sshc_mux.specs.ChannelTable.Opens.{next_number}
use Rattle.sshc_client_packets.specs.ChannelOpens.{Session, channel_open_text}
use Rattle.sshc_client_packets.specs.ChannelRequests.{Exec, channel_request_text}
use Rattle.sshc_client_packets.specs.declared.channel_open.Sender.{Sender}
use Rattle.sshc_client_packets.specs.HostKeyProof.{Accepts, proof_judged}
use Rattle.sshc_client_table.specs.declared.reply_entry.ReplyKind.TheVariants as kinds
use Rattle.sshc_client_table.specs.declared.life.Life.TheVariants.{Runs}
use Rattle.sshc_client_table.specs.Messages.{KeepAlive, Ping, queued, waits_for}
use Rattle.sshc_client_table.specs.SessionState.{SessionState}
use Rattle.sshc_client_table.specs.Moves.{Asks, Begins, Confirms, Misses, Opens, PeerCloses, Rejects, Replied, RequestsOn, Reserves, after, done}
use Rattle.sshc_client_table.specs.SessionRow.{Opinions, UnknownOffered, behind_moves, opining, passed_over, plain_row, refused}
use Rattle.sshc_client_table.specs.SessionTable.{held_row, session_row}
use Rattle.sshc_client_table.specs.SessionTable.Exchanges.{exchange_done_row, peer_kexinit_row}
use Rattle.sshc_client_table.specs.SessionTable.Opens.{numbered_open_row}
use Rattle.sshc_client_table.specs.SessionTable.Replies.{failure_for, success_for}
use Rattle.sshc_client_table.specs.SessionTable.Timers.{missed_row}

abbrev ticket : ℕ → Ticket
ticket n = record { 0 = n }

-- a keepalive that wants no reply takes no place in the queue; a ping takes one
unanswered : queued (KeepAlive false) ≡ []
unanswered = refl

pinged : queued (Ping (ticket 3)) ≡ waits_for kinds.Ping (ticket 3) ∷ []
pinged = refl

-- at most one keepalive may stay unanswered: the second is one too many
abbrev with_count : ℕ → SessionState → SessionState
with_count n s = record s { settings = record (s.settings) { keepalive_max = 1 }; keepalives = n }

first_keepalive : (s : SessionState) → missed_row (with_count 0 s) ≡ plain_row (Misses ∷ Asks (KeepAlive true) ∷ [])
first_keepalive s = refl

second_keepalive : (s : SessionState) → missed_row (with_count 1 s) ≡ behind_moves (Misses ∷ []) (refused KeepaliveTimeout)
second_keepalive s = refl

-- an open of an unknown type is offered to the handler, and refused with its number
abbrev stranger : Sender
stranger = record { channel = 7; window_size = 16; max_packet_size = 16 }

unknown_open : (kind : List ℕ) → numbered_open_row (record { takes_unknown = false; window_target = 0 }) (Some 1) stranger kind Unknown
    ≡ opining (Some (UnknownOffered 1 kind)) (plain_row (Reserves stranger ∷ Rejects 1 UnknownChannelType ∷ []))
unknown_open kind = refl

-- the port of a forward; a malformed one is a denial, and the session continues
forwarded : (accepts : Accepts) → success_for accepts [] (waits_for kinds.Forward (ticket 3) ∷ []) (0 ∷ 0 ∷ 0x1f ∷ 0x90 ∷ []) ≡ plain_row (Replied (Some (ForwardPort 8080)) ∷ [])
forwarded accepts = refl

malformed : (accepts : Accepts) → success_for accepts [] (waits_for kinds.Forward (ticket 3) ∷ []) (1 ∷ []) ≡ plain_row (Replied (Some Denied) ∷ [])
malformed accepts = refl

-- a byte after a keepalive's reply is refused
too_long : (accepts : Accepts) → success_for accepts [] (waits_for kinds.Keepalive (ticket 0) ∷ []) (0 ∷ []) ≡ refused SshEncoding
too_long accepts = refl

-- if no request waits, the reply isn't read
none_waits : (accepts : Accepts) → success_for accepts [] [] (0 ∷ []) ≡ passed_over
none_waits accepts = refl

-- a ping that is refused still counts as answered
ping_refused : failure_for (waits_for kinds.Ping (ticket 3) ∷ []) ≡ plain_row (Replied (Some Pong) ∷ [])
ping_refused = refl

-- a key remains and no bytes do: the key's part is short
second_missing : (accepts : Accepts) (session_id : List ℕ) (key : Key) → proof_judged accepts session_id ((key, []) ∷ []) [] ≡ Err faults.SshEncoding
unfolding string_at number_at
second_missing accepts session_id key = refl

-- a second KEXINIT of the peer's is out of turn, and no packets from 50 on may come while the peer's exchange runs
second_kexinit : peer_kexinit_row Peer ≡ refused OutOfTurn
second_kexinit = refl

held : (s : SessionState) → held_row Peer s 1 passed_over ≡ refused Inconsistent
held s = refl

-- a later exchange with another host key than the first's is refused, whatever its secret and its names
other_key : (x : ExchangeResult) → exchange_done_row Peer false x ≡ refused RekeyKey
other_key x = refl

-- the transport's request for a new exchange acts as the user's
rekeyed : (accepts : Accepts) (o : Opinions) (s : SessionState) → session_row accepts o s events.RekeyLimit ≡ plain_row (Begins ∷ [])
unfolding session_row
rekeyed accepts o s = refl

-- ---- a remote command: open, confirmation, `exec`, the peer's close

abbrev fresh : SessionState
fresh = record {
  settings = record { max_packet_size = 32768; keepalive_interval = None; keepalive_max = 3; remote_sshid = [] };
  opening = record (start (record { window_size = 2097152; anonymous = false; inactivity = false })) { phase = Open; flag = Idle };
  table = no_channels 0;
  replies = [];
  keepalives = 0;
  window_target = 2097152;
  records = [];
  life = Runs;
}

abbrev opened : SessionState
opened = after (Opens Session (Some (ticket 2))) fresh

-- 5a 00000007 "session" 00000001 00200000 00008000
opened_says : opened.records ≡ Payload ((0x5a ∷ 0 ∷ 0 ∷ 0 ∷ 7 ∷ []) ++ codes "session" ++ (0 ∷ 0 ∷ 0 ∷ 1 ∷ 0 ∷ 0x20 ∷ 0 ∷ 0 ∷ 0 ∷ 0 ∷ 0x80 ∷ 0 ∷ [])) ∷ []
unfolding after next_number channel_open_text string_text u32_text
opened_says = refl

abbrev confirmed : SessionState
confirmed = after (Confirms (record { recipient = 1; sender = record { channel = 5; window_size = 100; max_packet_size = 32768 } })) opened

-- ticket 2 has its channel
confirmed_says : drop 1 confirmed.records ≡ Resolved (ticket 2) (ChannelOpened (record { 0 = 1 })) ∷ []
unfolding after next_number
confirmed_says = refl

-- 62 00000005 00000004 "exec" 01 00000002 "ls", and 61 00000005 after the peer's close
abbrev asked_and_closed : SessionState
asked_and_closed = done (RequestsOn 1 (Exec true (codes "ls")) ∷ PeerCloses 1 ∷ []) confirmed

closed_says : drop 2 asked_and_closed.records ≡
    Payload ((0x62 ∷ 0 ∷ 0 ∷ 0 ∷ 5 ∷ 0 ∷ 0 ∷ 0 ∷ 4 ∷ []) ++ codes "exec" ++ (1 ∷ 0 ∷ 0 ∷ 0 ∷ 2 ∷ []) ++ codes "ls")
    ∷ Payload (0x61 ∷ 0 ∷ 0 ∷ 0 ∷ 5 ∷ [])
    ∷ []
unfolding after next_number channel_request_text string_text u32_text bool_text
closed_says = refl

-- the channel is removed, and a request on it writes no packet
gone : (after (RequestsOn 1 (Exec true (codes "ls"))) asked_and_closed).records ≡ asked_and_closed.records
unfolding after next_number
gone = refl
