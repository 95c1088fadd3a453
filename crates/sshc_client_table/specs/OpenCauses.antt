-- Why an open session refuses an event, and why it ends, by its state and the event alone (RFC 4253, sections 7 and 11;
-- RFC 4254; OpenSSH's PROTOCOL). Stated apart from the table of rows, so that an error made in both shows; which
-- packets can't be read follows from the packets' grammar.
use Rattle.std.specs.Prelude.{◌≡◌, ◌≢◌, ◌⊎◌, ℕ, ◌+◌, ◌-◌, ◌^◌, ◌<◌, ◌≤◌, min, Bool, true, false, List, [], ◌∷◌, None, is_some, Result, Ok, Err}
use Rattle.sshc_wire.specs.MessageNumbers.{DISCONNECT, GLOBAL_REQUEST, REQUEST_SUCCESS, REQUEST_FAILURE, CHANNEL_OPEN, CHANNEL_OPEN_CONFIRMATION, CHANNEL_OPEN_FAILURE, CHANNEL_WINDOW_ADJUST, CHANNEL_DATA, CHANNEL_EXTENDED_DATA, CHANNEL_EOF, CHANNEL_CLOSE, CHANNEL_REQUEST, CHANNEL_SUCCESS, CHANNEL_FAILURE}
use Rattle.sshc_wire.specs.declared.error.WireError.{WireError}
use Rattle.sshc_auth_event.specs.declared.event.Event.{Event}
use Rattle.sshc_auth_event.specs.declared.event.Event.TheVariants as events
use Rattle.sshc_transport.specs.declared.exchange.ExchangeFlag.TheVariants as flags
use Rattle.sshc_transport.specs.declared.exchange.ExchangeResult.{ExchangeResult}
use Rattle.sshc_auth.specs.Causes.{Breaks, HasInvalidReason, HasOtherKey, IsCause, IsEarly, IsTooMuch, number, text}
use Rattle.sshc_auth.specs.declared.error.Error.{Error}
use Rattle.sshc_auth.specs.declared.error.Error.TheVariants as errors
use Rattle.sshc_mux.specs.ChannelTable.Opens.{awaited}
use Rattle.sshc_client_packets.specs.declared.channel_open.Confirmation.{Confirmation}
use Rattle.sshc_client_packets.specs.ChannelPackets.{RequestHead, channel_of, confirmation_of, data_of, extended_data_of, refusal_of, request_head_of, window_adjust_of}
use Rattle.sshc_client_packets.specs.PeerGlobals.{peer_global_of}
use Rattle.sshc_client_packets.specs.PeerOpens.{PeerOpen, peer_open_of, server_open_of}
use Rattle.sshc_client_packets.specs.PeerRequests.{peer_request_of}
use Rattle.sshc_client_packets.specs.Replies.{nothing_of}
use Rattle.sshc_client_table.specs.declared.reply_entry.ReplyKind.{ReplyKind}
use Rattle.sshc_client_table.specs.declared.reply_entry.ReplyKind.TheVariants as kinds
use Rattle.sshc_client_table.specs.declared.reply_entry.ReplyEntry.{ReplyEntry}
use Rattle.sshc_client_table.specs.SessionState.{SessionState, is_open}

-- ---- packets that can't be read

-- a part is short or isn't text, or bytes remain after the last part
abbrev pub Fails : {A : Type 0} {E : Type 0} → Result A E → Type 0
Fails (Ok x) = ⊥
Fails (Err e) = Unit {0}

-- the reply to the oldest request must be empty
abbrev pub IsBare : ReplyKind → Type 0
IsBare kinds.Done = Unit {0}
IsBare kinds.Ping = Unit {0}
IsBare kinds.Keepalive = Unit {0}
IsBare kinds.NoMoreSessions = Unit {0}
IsBare kind = ⊥

abbrev pub FirstIsBare : List ReplyEntry → Type 0
FirstIsBare [] = ⊥
FirstIsBare (first ∷ replies) = IsBare first.kind

-- after the head of a request on a channel
abbrev pub RequestFails : Result RequestHead WireError → Type 0
RequestFails (Ok head) = Fails (peer_request_of head.name head.rest)
RequestFails (Err e) = Unit {0}

-- after the head of an open
abbrev pub OpenFails : Result PeerOpen WireError → Type 0
OpenFails (Ok head) = Fails (server_open_of head.kind head.rest)
OpenFails (Err e) = Unit {0}

-- a packet of this number whose parts can't be read
pub data IsBroken (s : SessionState) (n : ℕ) (body : List ℕ) : Type 0 where
  disconnection : n ≡ DISCONNECT → Breaks (number ∷ text ∷ text ∷ []) body → IsBroken s n body
  global : n ≡ GLOBAL_REQUEST → Fails (peer_global_of body) → IsBroken s n body
  success : n ≡ REQUEST_SUCCESS → FirstIsBare s.replies → Fails (nothing_of body) → IsBroken s n body
  failure : n ≡ REQUEST_FAILURE → Fails (nothing_of body) → IsBroken s n body
  opening : n ≡ CHANNEL_OPEN → OpenFails (peer_open_of body) → IsBroken s n body
  confirmation : n ≡ CHANNEL_OPEN_CONFIRMATION → Fails (confirmation_of body) → IsBroken s n body
  refusal : n ≡ CHANNEL_OPEN_FAILURE → Fails (refusal_of body) → IsBroken s n body
  adjustment : n ≡ CHANNEL_WINDOW_ADJUST → Fails (window_adjust_of body) → IsBroken s n body
  bytes : n ≡ CHANNEL_DATA → Fails (data_of body) → IsBroken s n body
  extended_bytes : n ≡ CHANNEL_EXTENDED_DATA → Fails (extended_data_of body) → IsBroken s n body
  request : n ≡ CHANNEL_REQUEST → RequestFails (request_head_of body) → IsBroken s n body
  number_alone : (n ≡ CHANNEL_EOF) ⊎ ((n ≡ CHANNEL_CLOSE) ⊎ ((n ≡ CHANNEL_SUCCESS) ⊎ (n ≡ CHANNEL_FAILURE))) → Fails (channel_of body) → IsBroken s n body

abbrev pub IsBrokenPacket : SessionState → Event → Type 0
IsBrokenPacket s (events.Payload (n ∷ body)) = IsBroken s n body
IsBrokenPacket s event = ⊥

-- ---- packets that may not come

abbrev pub WaitsNot : SessionState → Result Confirmation WireError → Type 0
WaitsNot s (Ok c) = awaited c.recipient s.table ≡ None
WaitsNot s (Err e) = ⊥

-- a packet from 50 on while the peer's exchange runs, or a confirmation although no open of ours with its number waits
abbrev pub IsUnexpected : SessionState → Event → Type 0
IsUnexpected s (events.Payload (n ∷ body)) =
    ((s.opening.flag ≡ flags.Peer) × (50 ≤ n)) ⊎ ((n ≡ CHANNEL_OPEN_CONFIRMATION) × WaitsNot s (confirmation_of body))
IsUnexpected s event = ⊥

-- ---- timers

-- more keepalives in a row than may stay unanswered
pub record AreTooMany (s : SessionState) : Type 0 where
  pub set : is_some s.settings.keepalive_interval ≡ true
  pub bound : s.settings.keepalive_max ≢ 0
  pub passed : s.settings.keepalive_max < min (s.keepalives + 1) (2 ^ 64 - 1)

-- ---- why

-- why an open session refuses an event with an error; any other error never comes from an open session
abbrev pub IsOpenCause : SessionState → Event → Error → Type 0
IsOpenCause s event errors.NoMemory = Unit {0}
IsOpenCause s event errors.OutOfTurn = IsEarly s.opening.flag event
IsOpenCause s event errors.TransportFailed = event ≡ events.TransportFailed
IsOpenCause s event errors.RekeyKey = HasOtherKey s.opening event
IsOpenCause s event errors.Inconsistent = IsUnexpected s event
IsOpenCause s event errors.Pending = IsTooMuch s.opening event
IsOpenCause s event errors.SshEncoding = IsBrokenPacket s event
IsOpenCause s event errors.InvalidDisconnect = HasInvalidReason event
IsOpenCause s event errors.KeepaliveTimeout = (event ≡ events.KeepaliveTimer) × AreTooMany s
IsOpenCause s event errors.InactivityTimeout = (event ≡ events.InactivityTimer) × (s.opening.settings.inactivity ≡ true)
IsOpenCause s event e = ⊥

-- before the session is open the opening's causes apply
abbrev pub IsCauseIn : Bool → (ExchangeResult → Type 0) → SessionState → Event → Error → Type 0
IsCauseIn false SaysNo s event e = IsCause SaysNo s.opening event e
IsCauseIn true SaysNo s event e = IsOpenCause s event e

-- why a session refuses an event with an error
abbrev pub IsSessionCause : (ExchangeResult → Type 0) → SessionState → Event → Error → Type 0
IsSessionCause SaysNo s event e = IsCauseIn (is_open s.opening.phase) SaysNo s event e
