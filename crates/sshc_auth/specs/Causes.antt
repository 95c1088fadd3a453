-- Why the opening refuses, by its state and the event alone (RFC 4252, sections 5 to 8; RFC 4253, sections 7, 10 and
-- 11; RFC 4256; RFC 4462, section 3). Stated apart from the table of rows, so that an error made in both shows.
use Rattle.std.specs.Prelude.{◌≡◌, ◌≢◌, ◌⊎◌, ℕ, ◌+◌, ◌-◌, ◌*◌, ◌/◌, ◌^◌, ◌<◌, ◌≤◌, min, Bool, true, false, ◌||◌, List, [], ◌∷◌, length, Option, Some, None, Result, Ok, Err, ◌==◌, bytes_eq, codes, if◌then◌else◌}
use Rattle.std.specs.Int.{w32}
use Rattle.std.specs.List.{AllByRecursion}
use Rattle.sshc_wire.specs.Faults.{Rose}
use Rattle.sshc_wire.specs.Methods.{method_of}
use Rattle.sshc_wire.specs.Names.{names_in}
use Rattle.sshc_wire.specs.Reads.{boolean_at, number_at, string_at, text_at}
use Rattle.sshc_wire.specs.Reasons.{disconnect_of}
use Rattle.sshc_wire.specs.declared.error.WireError.{WireError}
use Rattle.sshc_wire.specs.MessageNumbers.{DISCONNECT, EXT_INFO, SERVICE_ACCEPT, USERAUTH_FAILURE, USERAUTH_SUCCESS, USERAUTH_BANNER, USERAUTH_PK_OK, USERAUTH_GSSAPI_TOKEN, USERAUTH_GSSAPI_ERROR, USERAUTH_GSSAPI_ERRTOK}
use Rattle.sshc_key.specs.declared.identity.PublicKeyOrCertificate.{PublicKeyOrCertificate}
use Rattle.sshc_auth_event.specs.HostKey.{host_key}
use Rattle.sshc_auth_event.specs.declared.event.Event.{Event}
use Rattle.sshc_auth_event.specs.declared.event.Event.TheVariants as events
use Rattle.sshc_auth_event.specs.declared.method.Method.{Method}
use Rattle.sshc_auth_event.specs.declared.method.Method.TheVariants as methods
use Rattle.sshc_transport.specs.declared.exchange.ExchangeFlag.{ExchangeFlag}
use Rattle.sshc_transport.specs.declared.exchange.ExchangeFlag.TheVariants as flags
use Rattle.sshc_transport.specs.declared.exchange.ExchangeKey.{ExchangeKey}
use Rattle.sshc_transport.specs.declared.exchange.ExchangeKey.TheVariants.{Missing}
use Rattle.sshc_transport.specs.declared.exchange.ExchangeResult.{ExchangeResult}
use Rattle.sshc_key.specs.Asking.{Asking, Always}
use Rattle.sshc_auth.specs.declared.ended.Ended.{Ended}
use Rattle.sshc_auth.specs.declared.ended.Ended.TheVariants as ends
use Rattle.sshc_auth.specs.declared.ended.RemoteDisconnectInfo.{RemoteDisconnectInfo}
use Rattle.sshc_auth.specs.declared.error.Error.{Error}
use Rattle.sshc_auth.specs.declared.error.Error.TheVariants as errors
use Rattle.sshc_auth.specs.declared.opening.Class.{Class}
use Rattle.sshc_auth.specs.declared.opening.Class.TheVariants as classes
use Rattle.sshc_auth.specs.declared.opening.Phase.{Phase}
use Rattle.sshc_auth.specs.declared.opening.Phase.TheVariants as phases
use Rattle.sshc_auth.specs.declared.step.Step.{Step}
use Rattle.sshc_auth.specs.declared.step.Step.TheVariants as steps
use Rattle.sshc_auth.specs.declared.step.Told.{Told}
use Rattle.sshc_auth.specs.declared.step.Told.TheVariants.{Went}
use Rattle.sshc_auth.specs.Extensions.{extensions_at}
use Rattle.sshc_auth.specs.OpeningState.{OpeningState, is_awaiting}
use Rattle.sshc_wire.specs.Outgoing.{Outgoing}
use Rattle.sshc_auth.specs.OpeningTable.{asked_of}
use Rattle.sshc_auth.specs.OpeningTable.AuthPrompts.{prompts_at}
use Rattle.sshc_auth.specs.Row.{Row, Next, stays, opens, ends as ends_with, refuses}
use Rattle.sshc_auth.specs.Stepping.{Answered, GateAnswers, Lent, LentGate, exchange_in}

-- ---- turns

-- transport and timers
abbrev pub IsNotUsers : Event → Type 0
IsNotUsers events.PeerKexinit = Unit {0}
IsNotUsers (events.ExchangeDone x) = Unit {0}
IsNotUsers (events.Payload packet) = Unit {0}
IsNotUsers events.TransportFailed = Unit {0}
IsNotUsers events.RekeyLimit = Unit {0}
IsNotUsers events.KeepaliveTimer = Unit {0}
IsNotUsers events.InactivityTimer = Unit {0}
IsNotUsers event = ⊥

-- a second KEXINIT of the peer, an exchange that is done without one, and a user's event while an exchange runs
abbrev pub IsEarly : ExchangeFlag → Event → Type 0
IsEarly flag events.PeerKexinit = flag ≡ flags.Peer
IsEarly flag (events.ExchangeDone x) = flag ≢ flags.Peer
IsEarly flag (events.Payload packet) = ⊥
IsEarly flag events.TransportFailed = ⊥
IsEarly flag events.RekeyLimit = ⊥
IsEarly flag events.KeepaliveTimer = ⊥
IsEarly flag events.InactivityTimer = ⊥
IsEarly flag event = flag ≢ flags.Idle

-- while an answer is awaited only the user's events may come; else the exchange flag decides
abbrev pub IsOutOfTurn : OpeningState → Event → Type 0
IsOutOfTurn s event = ((is_awaiting s.phase ≡ true) × IsNotUsers event) ⊎ ((is_awaiting s.phase ≡ false) × IsEarly s.flag event)

-- ---- the first exchange

-- it has no host key that is accepted
abbrev pub IsUnaccepted : (ExchangeResult → Type 0) → Phase → Event → Type 0
IsUnaccepted SaysNo phase (events.ExchangeDone x) = (phase ≡ phases.Exchanging) × SaysNo x
IsUnaccepted SaysNo phase event = ⊥

-- ---- later exchanges

-- the host key that the session has: a key or a certificate, of the same bytes
abbrev pub IsKeptKey : OpeningState → ExchangeKey → Type 0
IsKeptKey s key = (key ≡ s.host_key) × (key ≢ Missing)

-- an exchange that the peer began is done, with another host key
abbrev pub HasOtherKey : OpeningState → Event → Type 0
HasOtherKey s (events.ExchangeDone x) = (s.flag ≡ flags.Peer) × (IsKeptKey s x.key → ⊥)
HasOtherKey s event = ⊥

-- ---- packets that may not come

-- the packets that a server sends to an authenticating user; those from 60 on by the class of the request
abbrev pub is_answer : Class → ℕ → Bool
is_answer classes.Gssapi number =
    (number == USERAUTH_FAILURE) || (number == USERAUTH_SUCCESS) || (number == USERAUTH_BANNER) || (number == USERAUTH_PK_OK) || (number == EXT_INFO)
    || (number == USERAUTH_GSSAPI_TOKEN) || (number == USERAUTH_GSSAPI_ERROR) || (number == USERAUTH_GSSAPI_ERRTOK)
is_answer class number =
    (number == USERAUTH_FAILURE) || (number == USERAUTH_SUCCESS) || (number == USERAUTH_BANNER) || (number == USERAUTH_PK_OK) || (number == EXT_INFO)

-- and to a user who asks for the service
abbrev pub is_service : ℕ → Bool
is_service number = (number == SERVICE_ACCEPT) || (number == EXT_INFO)

-- a server sends two EXT_INFO at most (RFC 8308, section 2.4)
abbrev pub IsThird : OpeningState → ℕ → Type 0
IsThird s number = (number ≡ EXT_INFO) × (2 ≤ s.ext_infos)

-- a number of prompts that is too large for the remaining bytes, since a prompt has at least five
abbrev pub AreTooMany : Result (ℕ × List ℕ) WireError → Type 0
AreTooMany (Ok n) = length n.1 / 5 < n.0
AreTooMany (Err e) = ⊥

abbrev pub behind : {A : Type 0} → Result (A × List ℕ) WireError → List ℕ
behind (Ok x) = x.1
behind (Err e) = []

-- three texts precede the number
abbrev pub HasTooManyPrompts : List ℕ → Type 0
HasTooManyPrompts body = AreTooMany (number_at w32 (behind (text_at (behind (text_at (behind (text_at body)))))))

abbrev pub IsUnexpectedIn : Phase → OpeningState → ℕ → List ℕ → Type 0
IsUnexpectedIn phases.Service s number body = (is_service number ≡ false) ⊎ (((number ≡ SERVICE_ACCEPT) × (s.requested ≡ false)) ⊎ IsThird s number)
IsUnexpectedIn phases.Auth s number body = (is_answer s.class number ≡ false) ⊎ (((s.class ≡ classes.Prompts) × (number ≡ USERAUTH_PK_OK) × HasTooManyPrompts body) ⊎ IsThird s number)
IsUnexpectedIn phase s number body = ⊥

-- a packet from 50 on once the peer has begun an exchange behind the first, or one that its phase doesn't have
abbrev pub IsUnexpected : OpeningState → Event → Type 0
IsUnexpected s (events.Payload (number ∷ body)) = ((s.flag ≡ flags.Peer) × (s.phase ≢ phases.Exchanging) × (50 ≤ number)) ⊎ IsUnexpectedIn s.phase s number body
IsUnexpected s event = ⊥

-- more than twice our window came while an exchange of ours runs, this packet included
abbrev pub IsTooMuch : OpeningState → Event → Type 0
IsTooMuch s (events.Payload packet) = (s.flag ≡ flags.Ours) × (2 * s.settings.window_size < min (s.counted + length packet) (2 ^ 64 - 1))
IsTooMuch s event = ⊥

-- ---- packets that are broken

-- a part of a packet: a number, a boolean, a string, a text, prompts or extensions after their number, or its end
pub data FieldKind : Type 0 where
  number : FieldKind
  boolean : FieldKind
  string : FieldKind
  text : FieldKind
  prompts : FieldKind
  extensions : FieldKind
  end : FieldKind

abbrev pub rest_of : {A : Type 0} → Result (A × List ℕ) WireError → Option (List ℕ)
rest_of (Ok x) = Some x.1
rest_of (Err e) = None

abbrev pub after_prompts : Result (ℕ × List ℕ) WireError → Option (List ℕ)
after_prompts (Ok n) = rest_of (prompts_at n.0 n.1)
after_prompts (Err e) = None

abbrev pub after_end : List ℕ → Option (List ℕ)
after_end [] = Some []
after_end (b ∷ left) = None

-- the bytes after a part; `None` where it is short or isn't text, or where bytes remain at the end
abbrev pub after : FieldKind → List ℕ → Option (List ℕ)
after number body = rest_of (number_at w32 body)
after boolean body = rest_of (boolean_at body)
after string body = rest_of (string_at body)
after text body = rest_of (text_at body)
after prompts body = after_prompts (number_at w32 body)
after extensions body = rest_of (extensions_at body)
after end body = after_end body

abbrev pub BreaksBehind : (List ℕ → Type 0) → Option (List ℕ) → Type 0
BreaksBehind Breaks None = Unit {0}
BreaksBehind Breaks (Some rest) = Breaks rest

-- one of the parts can't be read
abbrev pub Breaks : List FieldKind → List ℕ → Type 0
Breaks [] body = ⊥
Breaks (part ∷ parts) body = BreaksBehind (λ rest. Breaks parts rest) (after part body)

-- 60 is another message for each class of request
abbrev pub answer_parts : Class → List FieldKind
answer_parts classes.Key = text ∷ string ∷ end ∷ []
answer_parts classes.Prompts = text ∷ text ∷ text ∷ prompts ∷ end ∷ []
answer_parts classes.Gssapi = string ∷ end ∷ []
answer_parts class = []

-- 61, 64 and 65 belong to GSSAPI; the parts of no other packet are read
abbrev pub gssapi_parts : Class → ℕ → List FieldKind
gssapi_parts classes.Gssapi n =
    if n == USERAUTH_GSSAPI_TOKEN then string ∷ end ∷ []
    else (if n == USERAUTH_GSSAPI_ERROR then number ∷ number ∷ text ∷ text ∷ end ∷ []
    else (if n == USERAUTH_GSSAPI_ERRTOK then string ∷ end ∷ []
    else []))
gssapi_parts class n = []

abbrev pub auth_parts : Class → ℕ → List FieldKind
auth_parts class n =
    if n == USERAUTH_FAILURE then text ∷ boolean ∷ end ∷ []
    else (if n == USERAUTH_SUCCESS then end ∷ []
    else (if n == USERAUTH_BANNER then text ∷ text ∷ end ∷ []
    else (if n == USERAUTH_PK_OK then answer_parts class
    else (if n == EXT_INFO then extensions ∷ end ∷ []
    else gssapi_parts class n))))

-- a SERVICE_ACCEPT is read to its end if it names the service that was asked for
abbrev pub accept_parts : Result (List ℕ × List ℕ) WireError → List FieldKind
accept_parts (Ok name) = if bytes_eq name.0 (codes "ssh-userauth") then string ∷ end ∷ [] else string ∷ []
accept_parts (Err e) = string ∷ []

abbrev pub parts_in : Phase → Class → ℕ → List ℕ → List FieldKind
parts_in phases.Service class n body = if n == SERVICE_ACCEPT then accept_parts (string_at body) else (if n == EXT_INFO then extensions ∷ end ∷ [] else [])
parts_in phases.Auth class n body = auth_parts class n
parts_in phase class n body = []

-- the parts that are read of a packet of this number; a disconnection may come in any phase, and the bytes after it are
-- ignored
abbrev pub parts_of : OpeningState → ℕ → List ℕ → List FieldKind
parts_of s n body = if n == DISCONNECT then number ∷ text ∷ text ∷ [] else parts_in s.phase s.class n body

abbrev pub IsBrokenPacket : OpeningState → Event → Type 0
IsBrokenPacket s (events.Payload (n ∷ body)) = Breaks (parts_of s n body) body
IsBrokenPacket s event = ⊥

-- ---- single events and packets

abbrev pub IsInvalidReason : Result (ℕ × List ℕ) WireError → Type 0
IsInvalidReason (Ok code) = disconnect_of code.0 ≡ None
IsInvalidReason (Err e) = ⊥

-- the peer disconnects for a reason outside 1 to 15
abbrev pub HasInvalidReason : Event → Type 0
HasInvalidReason (events.Payload (n ∷ body)) = (n ≡ DISCONNECT) × IsInvalidReason (number_at w32 body)
HasInvalidReason event = ⊥

abbrev pub AreUnknown : Result (List ℕ × List ℕ) WireError → Type 0
AreUnknown (Ok list) = AllByRecursion (λ name. method_of name ≡ None) (names_in list.0)
AreUnknown (Err e) = ⊥

-- a USERAUTH_FAILURE names no method that is known
abbrev pub NamesNoMethod : OpeningState → Event → Type 0
NamesNoMethod s (events.Payload (n ∷ body)) = (s.phase ≡ phases.Auth) × (n ≡ USERAUTH_FAILURE) × AreUnknown (text_at body)
NamesNoMethod s event = ⊥

-- the user asks for a channel
abbrev pub IsChannelOpen : Event → Type 0
IsChannelOpen (events.ChannelOpenSession ticket) = Unit {0}
IsChannelOpen (events.ChannelOpenX11 ticket address port) = Unit {0}
IsChannelOpen (events.ChannelOpenDirectTcpIp ticket host port address own) = Unit {0}
IsChannelOpen (events.ChannelOpenDirectStreamLocal ticket path) = Unit {0}
IsChannelOpen event = ⊥

-- the stored request is signed with a local key pair
abbrev pub IsLocal : Option Method → Type 0
IsLocal (Some (methods.PublicKey key)) = Unit {0}
IsLocal (Some (methods.OpenSshCertificate key cert)) = Unit {0}
IsLocal method = ⊥

-- the server would accept a key whose pair is local
abbrev pub IsSigned : OpeningState → Event → Type 0
IsSigned s (events.Payload (n ∷ body)) = (s.phase ≡ phases.Auth) × (s.class ≡ classes.Key) × (n ≡ USERAUTH_PK_OK) × IsLocal s.method
IsSigned s event = ⊥

-- ---- why

-- why an event is refused with an error; the others never come from an opening
abbrev pub IsCause : (ExchangeResult → Type 0) → OpeningState → Event → Error → Type 0
IsCause SaysNo s event errors.NoMemory = Unit {0}
IsCause SaysNo s event errors.SignerFault = IsSigned s event
IsCause SaysNo s event errors.OutOfTurn = IsOutOfTurn s event
IsCause SaysNo s event errors.TransportFailed = (event ≡ events.TransportFailed) × (is_awaiting s.phase ≡ false)
IsCause SaysNo s event errors.UnknownKey = (s.flag ≡ flags.Peer) × IsUnaccepted SaysNo s.phase event
IsCause SaysNo s event errors.RekeyKey = (s.phase ≢ phases.Exchanging) × HasOtherKey s event
IsCause SaysNo s event errors.Inconsistent = IsUnexpected s event
IsCause SaysNo s event errors.Pending = IsTooMuch s event
IsCause SaysNo s event errors.NoAuthMethod = NamesNoMethod s event
IsCause SaysNo s event errors.NotAuthenticated = (s.flag ≡ flags.Idle) × (is_awaiting s.phase ≡ false) × IsChannelOpen event
IsCause SaysNo s event errors.SshEncoding = IsBrokenPacket s event
IsCause SaysNo s event errors.InvalidDisconnect = HasInvalidReason event
IsCause SaysNo s event errors.RecvError = (event ≡ events.Gone) × (is_awaiting s.phase ≡ true)
IsCause SaysNo s event errors.InactivityTimeout = (event ≡ events.InactivityTimer) × (s.settings.inactivity ≡ true) × (is_awaiting s.phase ≡ false)
IsCause SaysNo s event e = ⊥

-- ---- why a session ends

-- a message and its language; the bytes after them are ignored
abbrev pub ReadsTexts : RemoteDisconnectInfo → List ℕ → Type 0
ReadsTexts info rest = (after' left : List ℕ) × (text_at rest ≡ Ok (info.message, after')) × (text_at after' ≡ Ok (info.lang_tag, left))

-- the peer's disconnection contains this (RFC 4253, section 11.1)
abbrev pub Disconnects : RemoteDisconnectInfo → List ℕ → Type 0
Disconnects info body = (code : ℕ) × (rest : List ℕ) × (number_at w32 body ≡ Ok (code, rest)) × (disconnect_of code ≡ Some info.reason_code) × ReadsTexts info rest

abbrev pub IsPeersEnd : Event → RemoteDisconnectInfo → Type 0
IsPeersEnd (events.Payload (n ∷ body)) info = (n ≡ DISCONNECT) × Disconnects info body
IsPeersEnd event info = ⊥

-- the user disconnects
abbrev pub IsUsersEnd : Event → Type 0
IsUsersEnd (events.Disconnect reason description language) = Unit {0}
IsUsersEnd event = ⊥

-- the peer or the user disconnects, or the user is gone; no event causes `ScriptEnd`
abbrev pub IsEndCause : OpeningState → Event → Ended → Type 0
IsEndCause s event (ends.RemoteDisconnect info) = IsPeersEnd event info
IsEndCause s event ends.Disconnected = IsUsersEnd event
IsEndCause s event ends.Closed = (event ≡ events.Gone) × (is_awaiting s.phase ≡ false)
IsEndCause s event ends.ScriptEnd = ⊥

-- why an event is refused with an error, and why it ends the session
pub record Why : Type 1 where
  pub refusal : Error → Type 0
  pub end : Ended → Type 0

abbrev pub why : (ExchangeResult → Type 0) → OpeningState → Event → Why
why SaysNo s event = record { refusal = λ e. IsCause SaysNo s event e; end = λ e. IsEndCause s event e }

-- an outcome has its cause
abbrev pub Caused : Why → Next → Type 0
Caused reason (stays s) = Unit {0}
Caused reason (opens s) = Unit {0}
Caused reason (ends_with e) = reason.end e
Caused reason (refuses e) = reason.refusal e

-- the same for each row that can be reached, whatever the signer returns
abbrev pub AllCaused : Why → Asking Row → Type 0
AllCaused reason asking = Always (λ (row : Row). Caused reason row.next) asking

-- ---- calls

-- the signer's fault comes only where its count rose in this call
abbrev pub CountRose : ℕ → ℕ → Error → Type 0
CountRose before now errors.SignerFault = Rose before now
CountRose before now e = Unit {0}

-- the gate, as far as it was asked, didn't let the row continue
abbrev pub WasToldNo : Told → ExchangeResult → Type 0
WasToldNo told x = told ≢ Went

abbrev pub HasCause : Told → Event → Lent → Lent → Step Error → Type 0
HasCause told event was is (steps.Refused e) = IsCause (WasToldNo told) was.opening event e × CountRose was.refusals is.refusals e
HasCause told event was is (steps.Ended e) = IsEndCause was.opening event e
HasCause told event was is answer = Unit {0}

-- there is no host key, or the gate rejects it
abbrev pub SaysNoTo : {E : Type 0} → (PublicKeyOrCertificate → Result Bool E → Type 0) → Option PublicKeyOrCertificate → Type 0
SaysNoTo judges None = Unit {0}
SaysNoTo judges (Some key) = judges key (Ok false)

abbrev pub GateSaysNo : {E : Type 0} → GateAnswers E → ExchangeResult → Type 0
GateSaysNo gate x = SaysNoTo gate.judges (host_key x.key)

-- the gate returned this error when it was asked what the row asks
abbrev pub GateRefuses : {E : Type 0} → GateAnswers E → Event → Lent → E → Type 0
GateRefuses gate event was e = (mid : Outgoing) × Answered gate (exchange_in event) was.outbox mid (Err e) (asked_of was.opening event)

-- a step is refused for a cause, with its error as the gate reports it, or because the gate refused, with the gate's
-- error, and its count of refusals rose; an end has its cause
abbrev pub HasGateCause : {E : Type 0} → GateAnswers E → Event → LentGate → LentGate → Step E → Type 0
HasGateCause gate event was is (steps.Refused e) =
    ((why : Error) × (e ≡ gate.told_as why) × IsCause (GateSaysNo gate) was.rest.opening event why × CountRose was.rest.refusals is.rest.refusals why)
    ⊎ (GateRefuses gate event was.rest e × Rose was.refusals is.refusals)
HasGateCause gate event was is (steps.Ended e) = IsEndCause was.rest.opening event e
HasGateCause gate event was is answer = Unit {0}
