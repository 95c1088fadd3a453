-- The grammar of an event's fields: which bytes spell them, part after part (docs/FORMATS.md, "Events").
-- A line for each event, in terms of the event itself. How fields are read (EventReading) is defined apart from it; a
-- law joins the two.
use Rattle.std.specs.Prelude.{◌≡◌, ℕ, ◌≤◌, true, false, List, [], ◌∷◌, Option, Some, None, Result, Ok, Err, is_some}
use Rattle.sshc_wire.specs.Grammar.{IsFlag, InRow, Tagged, Converted, IsCounted}
use Rattle.sshc_wire.specs.Signals.{signal_of}
use Rattle.sshc_wire.specs.declared.channel_open_failure.ChannelOpenFailure.{ChannelOpenFailure}
use Rattle.sshc_wire.specs.declared.hash_alg.HashAlg.{HashAlg}
use Rattle.sshc_key.specs.Algorithms.{kept_hash}
use Rattle.sshc_key.specs.PairCode.{KeyPair}
use Rattle.sshc_transport.specs.declared.exchange.ExchangeKey.{ExchangeKey}
use Rattle.sshc_transport.specs.declared.exchange.ExchangeKey.TheVariants as exchange_keys
use Rattle.sshc_transport.specs.declared.exchange.ExchangeResult.{ExchangeResult}
use Rattle.sshc_transport.specs.declared.exchange.ExchangeNames.{ExchangeNames}
use Rattle.sshc_auth_event.specs.declared.channel_msg.ChannelMsg.{ChannelMsg}
use Rattle.sshc_auth_event.specs.declared.channel_msg.ChannelMsg.TheVariants as msgs
use Rattle.sshc_auth_event.specs.declared.event.Event.{Event}
use Rattle.sshc_auth_event.specs.declared.event.Event.TheVariants as events
use Rattle.sshc_auth_event.specs.declared.method.Method.{Method}
use Rattle.sshc_auth_event.specs.declared.method.Method.TheVariants as methods
use Rattle.sshc_auth_event.specs.HostKey.{host_key}
use Rattle.sshc_run_reader.specs.declared.channel_sort.ChannelSort.{ChannelSort}
use Rattle.sshc_run_reader.specs.declared.channel_sort.ChannelSort.TheVariants as channel_sorts
use Rattle.sshc_run_reader.specs.declared.event_kind.EventKind.{EventKind}
use Rattle.sshc_run_reader.specs.declared.event_kind.EventKind.TheVariants as kinds
use Rattle.sshc_run_reader.specs.declared.method_sort.MethodSort.{MethodSort}
use Rattle.sshc_run_reader.specs.declared.method_sort.MethodSort.TheVariants as method_sorts
use Rattle.sshc_run_reader.specs.ChannelSorts.{channel_sort_number}
use Rattle.sshc_run_reader.specs.MethodSorts.{method_sort_number}
use Rattle.sshc_run_reader.specs.EventParts.{IsU8, IsU32, IsString, IsText, IsTicket, IsChannel, IsMode, hash_numbered, reason_numbered, failure_numbered, token_of, plain_key, whole_certificate, whole_pair}

-- ---- parts that represent something

abbrev pub IsHash : Option HashAlg → List ℕ → Type 0
IsHash hash bytes = Converted hash_numbered IsU8 hash bytes

abbrev pub IsToken : Option (List ℕ) → List ℕ → Type 0
IsToken token bytes = Converted token_of IsString token bytes

-- ---- an exchange

-- 0 and no bytes, or 1 and a key, or 2 and a certificate, each in a string that holds it whole
abbrev pub IsExchangeKey : ExchangeKey → List ℕ → Type 0
IsExchangeKey exchange_keys.Missing bytes = InRow IsU8 IsString (0, []) bytes
IsExchangeKey (exchange_keys.Key blob) bytes = InRow IsU8 IsString (1, blob) bytes × (is_some (host_key (exchange_keys.Key blob)) ≡ true)
IsExchangeKey (exchange_keys.Certificate blob) bytes = InRow IsU8 IsString (2, blob) bytes × (is_some (host_key (exchange_keys.Certificate blob)) ≡ true)

-- a secret, or a flag that says that there is no secret, and then no bytes
abbrev pub IsSecret : Option (List ℕ) → List ℕ → Type 0
IsSecret (Some secret) bytes = InRow IsFlag IsString (true, secret) bytes
IsSecret None bytes = InRow IsFlag IsString (false, []) bytes

abbrev pub IsNames : ExchangeNames → List ℕ → Type 0
IsNames n bytes = InRow IsText (InRow IsText (InRow IsText (InRow IsText (InRow IsText IsFlag)))) (n.kex, (n.key, (n.cipher, (n.client_mac, (n.server_mac, n.strict_kex))))) bytes

abbrev pub IsExchange : ExchangeResult → List ℕ → Type 0
IsExchange x bytes = InRow IsExchangeKey (InRow IsString (InRow IsString (InRow IsSecret IsNames))) (x.key, (x.session_hash, (x.signature, (x.secret, x.names)))) bytes

-- packets of an exchange's own types, 20 to 49, aren't events
abbrev pub IsPacket : List ℕ → List ℕ → Type 0
IsPacket packet [] = packet ≡ []
IsPacket packet (number ∷ body) = (packet ≡ number ∷ body) × ((20 ≤ number) × (number ≤ 49) → ⊥)

-- ---- a method

abbrev pub method_sort : Method → MethodSort
method_sort methods.None = method_sorts.Nothing
method_sort (methods.Password password) = method_sorts.Password
method_sort (methods.PublicKey key) = method_sorts.PublicKey
method_sort (methods.OpenSshCertificate key cert) = method_sorts.OpenSshCertificate
method_sort (methods.FuturePublicKey key hash) = method_sorts.FuturePublicKey
method_sort (methods.FutureCertificate cert hash) = method_sorts.FutureCertificate
method_sort (methods.KeyboardInteractive submethods) = method_sorts.KeyboardInteractive
method_sort (methods.GssapiWithMic oids) = method_sorts.GssapiWithMic

-- a pair and a hash, which is kept where the key is RSA's
abbrev pub IsHashedPair : KeyPair × Option HashAlg → List ℕ → Type 0
IsHashedPair key bytes = (hash : Option HashAlg) × InRow (Converted whole_pair IsString) IsHash (key.0, hash) bytes × (key.1 ≡ kept_hash key.0.public.0 hash)

abbrev pub IsMethodFields : Method → List ℕ → Type 0
IsMethodFields methods.None bytes = bytes ≡ []
IsMethodFields (methods.Password password) bytes = IsText password bytes
IsMethodFields (methods.PublicKey key) bytes = IsHashedPair key bytes
IsMethodFields (methods.OpenSshCertificate key cert) bytes = InRow (Converted whole_pair IsString) (Converted whole_certificate IsString) (key, cert) bytes
IsMethodFields (methods.FuturePublicKey key hash) bytes = InRow (Converted plain_key IsString) IsHash (key, hash) bytes
IsMethodFields (methods.FutureCertificate cert hash) bytes = InRow (Converted whole_certificate IsString) IsHash (cert, hash) bytes
IsMethodFields (methods.KeyboardInteractive submethods) bytes = IsText submethods bytes
IsMethodFields (methods.GssapiWithMic oids) bytes = IsCounted IsString oids bytes

-- the sort's number, and the method's fields
abbrev pub IsMethodSort : MethodSort → List ℕ → Type 0
IsMethodSort sort bytes = bytes ≡ method_sort_number sort ∷ []

abbrev pub IsMethod : Method → List ℕ → Type 0
IsMethod m bytes = Tagged IsMethodSort method_sort IsMethodFields m bytes

-- ---- what is asked of a channel; the other messages are only reported

abbrev pub channel_sort : ChannelMsg → Option ChannelSort
channel_sort (msgs.Data body) = Some channel_sorts.Data
channel_sort (msgs.ExtendedData ext body) = Some channel_sorts.ExtendedData
channel_sort msgs.Eof = Some channel_sorts.Eof
channel_sort msgs.Close = Some channel_sorts.Close
channel_sort (msgs.RequestPty reply term cols rows width height modes) = Some channel_sorts.RequestPty
channel_sort (msgs.WindowChange cols rows width height) = Some channel_sorts.WindowChange
channel_sort (msgs.RequestX11 reply single protocol cookie screen) = Some channel_sorts.RequestX11
channel_sort (msgs.SetEnv reply name value) = Some channel_sorts.SetEnv
channel_sort (msgs.RequestShell reply) = Some channel_sorts.RequestShell
channel_sort (msgs.Exec reply command) = Some channel_sorts.Exec
channel_sort (msgs.Signal signal) = Some channel_sorts.Signal
channel_sort (msgs.RequestSubsystem reply name) = Some channel_sorts.RequestSubsystem
channel_sort (msgs.AgentForward reply) = Some channel_sorts.AgentForward
channel_sort msg = None

abbrev pub IsSort : Option ChannelSort → List ℕ → Type 0
IsSort None bytes = ⊥
IsSort (Some sort) bytes = bytes ≡ channel_sort_number sort ∷ []

-- four numbers: a terminal's size in characters and in pixels
abbrev pub IsSize : ℕ × (ℕ × (ℕ × ℕ)) → List ℕ → Type 0
IsSize size bytes = InRow IsU32 (InRow IsU32 (InRow IsU32 IsU32)) size bytes

abbrev pub IsMsgFields : ChannelMsg → List ℕ → Type 0
IsMsgFields (msgs.Data body) bytes = IsString body bytes
IsMsgFields (msgs.ExtendedData ext body) bytes = InRow IsU32 IsString (ext, body) bytes
IsMsgFields msgs.Eof bytes = bytes ≡ []
IsMsgFields msgs.Close bytes = bytes ≡ []
IsMsgFields (msgs.RequestPty reply term cols rows width height modes) bytes =
    InRow IsFlag (InRow IsText (InRow IsSize (IsCounted IsMode))) (reply, (term, ((cols, (rows, (width, height))), modes))) bytes
IsMsgFields (msgs.WindowChange cols rows width height) bytes = IsSize (cols, (rows, (width, height))) bytes
IsMsgFields (msgs.RequestX11 reply single protocol cookie screen) bytes =
    InRow IsFlag (InRow IsFlag (InRow IsText (InRow IsText IsU32))) (reply, (single, (protocol, (cookie, screen)))) bytes
IsMsgFields (msgs.SetEnv reply name value) bytes = InRow IsFlag (InRow IsText IsText) (reply, (name, value)) bytes
IsMsgFields (msgs.RequestShell reply) bytes = IsFlag reply bytes
IsMsgFields (msgs.Exec reply command) bytes = InRow IsFlag IsString (reply, command) bytes
IsMsgFields (msgs.Signal signal) bytes = (name : List ℕ) × IsText name bytes × (signal_of name ≡ signal)
IsMsgFields (msgs.RequestSubsystem reply name) bytes = InRow IsFlag IsText (reply, name) bytes
IsMsgFields (msgs.AgentForward reply) bytes = IsFlag reply bytes
IsMsgFields msg bytes = ⊥

abbrev pub IsChannelMsg : ChannelMsg → List ℕ → Type 0
IsChannelMsg msg bytes = Tagged IsSort channel_sort IsMsgFields msg bytes

-- whether the channel is accepted, and a reason, which is 1 to 4 also where it is
abbrev pub IsOpenReply : Result (Unit {0}) ChannelOpenFailure → List ℕ → Type 0
IsOpenReply (Ok u) bytes = (reason : ChannelOpenFailure) × InRow IsFlag (Converted failure_numbered IsU32) (true, reason) bytes
IsOpenReply (Err reason) bytes = InRow IsFlag (Converted failure_numbered IsU32) (false, reason) bytes

-- ---- the fields of each event

abbrev pub kind_of : Event → EventKind
kind_of events.PeerKexinit = kinds.PeerKexinit
kind_of (events.ExchangeDone x) = kinds.ExchangeDone
kind_of (events.Payload packet) = kinds.Payload
kind_of events.TransportFailed = kinds.TransportFailed
kind_of events.RekeyLimit = kinds.RekeyLimit
kind_of events.KeepaliveTimer = kinds.KeepaliveTimer
kind_of events.InactivityTimer = kinds.InactivityTimer
kind_of (events.Authenticate ticket user method) = kinds.Authenticate
kind_of (events.AuthInfoResponse responses) = kinds.AuthInfoResponse
kind_of (events.AuthGssapiToken token) = kinds.AuthGssapiToken
kind_of (events.AuthGssapiMic token mic) = kinds.AuthGssapiMic
kind_of (events.AuthGssapiExchangeComplete token) = kinds.AuthGssapiExchangeComplete
kind_of (events.Signed body) = kinds.Signed
kind_of events.SignFailed = kinds.SignFailed
kind_of (events.ChannelOpenSession ticket) = kinds.ChannelOpenSession
kind_of (events.ChannelOpenX11 ticket address port) = kinds.ChannelOpenX11
kind_of (events.ChannelOpenDirectTcpIp ticket host port originator originator_port) = kinds.ChannelOpenDirectTcpIp
kind_of (events.ChannelOpenDirectStreamLocal ticket path) = kinds.ChannelOpenDirectStreamLocal
kind_of (events.TcpIpForward ticket address port) = kinds.TcpIpForward
kind_of (events.CancelTcpIpForward ticket address port) = kinds.CancelTcpIpForward
kind_of (events.StreamLocalForward ticket path) = kinds.StreamLocalForward
kind_of (events.CancelStreamLocalForward ticket path) = kinds.CancelStreamLocalForward
kind_of (events.Close id) = kinds.Close
kind_of (events.Disconnect reason description language) = kinds.Disconnect
kind_of (events.Channel id msg) = kinds.Channel
kind_of (events.ServerChannelOpenReply id reply) = kinds.ServerChannelOpenReply
kind_of events.Rekey = kinds.Rekey
kind_of (events.AwaitExtensionInfo ticket name) = kinds.AwaitExtensionInfo
kind_of (events.GetServerSigAlgs ticket) = kinds.GetServerSigAlgs
kind_of (events.Keepalive reply) = kinds.Keepalive
kind_of (events.Ping ticket) = kinds.Ping
kind_of (events.NoMoreSessions reply) = kinds.NoMoreSessions
kind_of (events.HostKeysProve ticket keys) = kinds.HostKeysProve
kind_of (events.SendGlobalRequest ticket name body) = kinds.SendGlobalRequest
kind_of events.Gone = kinds.Gone

-- no fields
abbrev pub IsBare : List ℕ → Type 0
IsBare bytes = bytes ≡ []

abbrev pub IsFields : Event → List ℕ → Type 0
IsFields events.PeerKexinit bytes = IsBare bytes
IsFields (events.ExchangeDone x) bytes = IsExchange x bytes
IsFields (events.Payload packet) bytes = IsPacket packet bytes
IsFields events.TransportFailed bytes = IsBare bytes
IsFields events.RekeyLimit bytes = IsBare bytes
IsFields events.KeepaliveTimer bytes = IsBare bytes
IsFields events.InactivityTimer bytes = IsBare bytes
IsFields (events.Authenticate ticket user method) bytes = InRow IsTicket (InRow IsText IsMethod) (ticket, (user, method)) bytes
IsFields (events.AuthInfoResponse responses) bytes = IsCounted IsText responses bytes
IsFields (events.AuthGssapiToken token) bytes = IsString token bytes
IsFields (events.AuthGssapiMic token mic) bytes = InRow IsToken IsString (token, mic) bytes
IsFields (events.AuthGssapiExchangeComplete token) bytes = IsToken token bytes
IsFields (events.Signed body) bytes = IsString body bytes
IsFields events.SignFailed bytes = IsBare bytes
IsFields (events.ChannelOpenSession ticket) bytes = IsTicket ticket bytes
IsFields (events.ChannelOpenX11 ticket address port) bytes = InRow IsTicket (InRow IsText IsU32) (ticket, (address, port)) bytes
IsFields (events.ChannelOpenDirectTcpIp ticket host port originator originator_port) bytes =
    InRow IsTicket (InRow IsText (InRow IsU32 (InRow IsText IsU32))) (ticket, (host, (port, (originator, originator_port)))) bytes
IsFields (events.ChannelOpenDirectStreamLocal ticket path) bytes = InRow IsTicket IsText (ticket, path) bytes
IsFields (events.TcpIpForward ticket address port) bytes = InRow IsTicket (InRow IsText IsU32) (ticket, (address, port)) bytes
IsFields (events.CancelTcpIpForward ticket address port) bytes = InRow IsTicket (InRow IsText IsU32) (ticket, (address, port)) bytes
IsFields (events.StreamLocalForward ticket path) bytes = InRow IsTicket IsText (ticket, path) bytes
IsFields (events.CancelStreamLocalForward ticket path) bytes = InRow IsTicket IsText (ticket, path) bytes
IsFields (events.Close id) bytes = IsChannel id bytes
IsFields (events.Disconnect reason description language) bytes = InRow (Converted reason_numbered IsU32) (InRow IsText IsText) (reason, (description, language)) bytes
IsFields (events.Channel id msg) bytes = InRow IsChannel IsChannelMsg (id, msg) bytes
IsFields (events.ServerChannelOpenReply id reply) bytes = InRow IsChannel IsOpenReply (id, reply) bytes
IsFields events.Rekey bytes = IsBare bytes
IsFields (events.AwaitExtensionInfo ticket name) bytes = InRow IsTicket IsText (ticket, name) bytes
IsFields (events.GetServerSigAlgs ticket) bytes = IsTicket ticket bytes
IsFields (events.Keepalive reply) bytes = IsFlag reply bytes
IsFields (events.Ping ticket) bytes = IsTicket ticket bytes
IsFields (events.NoMoreSessions reply) bytes = IsFlag reply bytes
IsFields (events.HostKeysProve ticket keys) bytes = InRow IsTicket (IsCounted (Converted plain_key IsString)) (ticket, keys) bytes
IsFields (events.SendGlobalRequest ticket name body) bytes = InRow IsTicket (InRow IsText IsString) (ticket, (name, body)) bytes
IsFields events.Gone bytes = IsBare bytes
