-- What a step of an open session promises, in the words of the standards and apart from the table of rows, so that an
-- error made in the table and in the code alike shows: how requests and opens of ours are answered (RFC 4254, sections 4,
-- 5.1 and 7.1; OpenSSH's PROTOCOL, section 2.5), that no bytes of a channel are written while keys are exchanged (RFC
-- 4253, section 7.1), and that no user is authenticated any more (RFC 4252, section 5.1).
use Rattle.std.specs.Prelude.{◌≡◌, ◌≢◌, ◌⊎◌, ℕ, Bool, true, false, List, [], ◌∷◌, ◌++◌, length, Option, Some, None, Result, Ok, Err, if◌then◌else◌, ◌==◌}
use Rattle.std.specs.Int.{w32, from_be_bytes}
use Rattle.std.specs.List.{AllByRecursion}
use Rattle.sshc_wire.specs.Wire.{IsBytes}
use Rattle.sshc_wire.specs.declared.error.WireError.{WireError}
use Rattle.sshc_wire.specs.MessageNumbers.{USERAUTH_REQUEST, REQUEST_SUCCESS, REQUEST_FAILURE, CHANNEL_OPEN_CONFIRMATION, CHANNEL_OPEN_FAILURE, CHANNEL_DATA, CHANNEL_EXTENDED_DATA, CHANNEL_SUCCESS, CHANNEL_FAILURE}
use Rattle.sshc_wire.specs.declared.channel_open_failure.ChannelOpenFailure.{ChannelOpenFailure}
use Rattle.sshc_wire.specs.declared.record.Record.{Record}
use Rattle.sshc_wire.specs.declared.record.Record.TheVariants.{Auth, BeginExchange, Opened, Payload, Resolved}
use Rattle.sshc_wire.specs.declared.resolution.HostKeysFault.{HostKeysFault}
use Rattle.sshc_wire.specs.declared.resolution.Resolution.{Resolution}
use Rattle.sshc_wire.specs.declared.resolution.Resolution.TheVariants as told
use Rattle.sshc_wire.specs.declared.ticket.Ticket.{Ticket}
use Rattle.sshc_key.specs.KeyGrammar.{Key}
use Rattle.sshc_auth_event.specs.declared.event.Event.{Event}
use Rattle.sshc_auth_event.specs.declared.event.Event.TheVariants as events
use Rattle.sshc_auth.specs.Row.{resolved}
use Rattle.sshc_auth.specs.SessionWords.{HasKeptKey}
use Rattle.sshc_mux.specs.ChannelAccount.{Call, ran}
use Rattle.sshc_mux.specs.ChannelTable.Opens.{awaited}
use Rattle.sshc_client_packets.specs.declared.channel_open.Confirmation.{Confirmation}
use Rattle.sshc_client_packets.specs.ChannelPackets.{Refusal, confirmation_of, refusal_of}
use Rattle.sshc_client_packets.specs.HostKeyProof.{Accepts, IsProof}
use Rattle.sshc_client_table.specs.declared.reply_entry.ReplyKind.{ReplyKind}
use Rattle.sshc_client_table.specs.declared.reply_entry.ReplyKind.TheVariants as kinds
use Rattle.sshc_client_table.specs.declared.reply_entry.ReplyEntry.{ReplyEntry}
use Rattle.sshc_client_table.specs.declared.open_answer.OpenAnswer.{OpenAnswer}
use Rattle.sshc_client_table.specs.Grown.{Grown}
use Rattle.sshc_client_table.specs.Moves.{Fronts, done}
use Rattle.sshc_client_table.specs.NoRequests.{IsSameRequest}
use Rattle.sshc_client_table.specs.QueuedRequests.{Queues}
use Rattle.sshc_client_table.specs.Given.{Gives}
use Rattle.sshc_client_table.specs.PeerSays.{AnswersOpenOf, IsExchange, MayAccept, MayCall, MayReject, Replies, RepliesOn, Reports}
use Rattle.sshc_client_table.specs.RowMoves.{IsPacket, ResolvesOwn}
use Rattle.sshc_client_table.specs.SessionRow.{Callback, Opinions, SessionRow, goes}
use Rattle.sshc_client_table.specs.SessionState.{SessionState, exchanging, is_live}
use Rattle.sshc_client_table.specs.SessionTable.{session_row}

-- ---- replies to our requests

-- the answer under a ticket; none without a ticket, or where there is nothing to answer
abbrev pub answer_to : Option Ticket → Option Resolution → List Record
answer_to None answer = []
answer_to (Some ticket) None = []
answer_to (Some ticket) (Some answer) = resolved ticket answer

-- to a forward: no bytes mean the port that was asked for, as 0, four bytes are its number, and anything else denies
pub data TellsPort (body : List ℕ) : Resolution → Type 0 where
  same : body ≡ [] → TellsPort body (told.ForwardPort 0)
  number : length body ≡ 4 → TellsPort body (told.ForwardPort (from_be_bytes w32 body))
  neither : length body ≢ 0 → length body ≢ 4 → TellsPort body told.Denied

-- to a request to prove host keys: they are proved exactly if the reply is a proof
pub data TellsProof (accepts : Accepts) (session_id : List ℕ) (keys : List (Key × List ℕ)) (body : List ℕ) : Resolution → Type 0 where
  proof : IsProof accepts session_id keys body → TellsProof accepts session_id keys body told.HostKeysProved
  no_proof : (IsProof accepts session_id keys body → ⊥) → (fault : HostKeysFault) → TellsProof accepts session_id keys body (told.HostKeysRefused fault)

-- what 81 says, by what was asked
abbrev pub TellsSuccess : Accepts → List ℕ → List ℕ → ReplyEntry → ReplyKind → Option Resolution → Type 0
TellsSuccess accepts session_id body first kinds.Forward answer = (a : Resolution) × (answer ≡ Some a) × TellsPort body a
TellsSuccess accepts session_id body first kinds.Done answer = (body ≡ []) × (answer ≡ Some told.Done)
TellsSuccess accepts session_id body first kinds.Ping answer = (body ≡ []) × (answer ≡ Some told.Pong)
TellsSuccess accepts session_id body first kinds.Keepalive answer = (body ≡ []) × (answer ≡ None)
TellsSuccess accepts session_id body first kinds.NoMoreSessions answer = (body ≡ []) × (answer ≡ None)
TellsSuccess accepts session_id body first kinds.Proof answer =
    (a : Resolution) × (answer ≡ Some a) × (IsBytes body → TellsProof accepts session_id first.keys body a)
TellsSuccess accepts session_id body first kinds.Own answer = answer ≡ Some (told.GlobalReply body)

-- what 82 says: it is an answer to a ping too, and nobody waits for a keepalive's
abbrev pub TellsFailure : List ℕ → ReplyKind → Option Resolution → Type 0
TellsFailure body kinds.Ping answer = (body ≡ []) × (answer ≡ Some told.Pong)
TellsFailure body kinds.Keepalive answer = (body ≡ []) × (answer ≡ None)
TellsFailure body kinds.NoMoreSessions answer = (body ≡ []) × (answer ≡ None)
TellsFailure body kind answer = (body ≡ []) × (answer ≡ Some told.Denied)

-- The oldest request that waits is answered, and the others wait on; where none waits, nothing is answered.
abbrev pub AnswersOldest : (ReplyEntry → Option Resolution → Type 0) → List ReplyEntry → List ReplyEntry → List Record → Type 0
AnswersOldest Tells [] left added = (left ≡ []) × (added ≡ [])
AnswersOldest Tells (first ∷ rest) left added =
    (answer : Option Resolution) × Tells first answer × (left ≡ rest) × (added ≡ answer_to first.ticket answer)

-- a step that continues after a reply
abbrev pub Replied : Accepts → Event → SessionState → SessionState → List Record → Type 0
Replied accepts (events.Payload (n ∷ body)) was is added =
    (n ≡ REQUEST_SUCCESS → AnswersOldest (λ first. TellsSuccess accepts was.opening.session_id body first first.kind) was.replies is.replies added)
    × (n ≡ REQUEST_FAILURE → AnswersOldest (λ first. TellsFailure body first.kind) was.replies is.replies added)
Replied accepts event was is added = Unit {0}

-- the event is a reply
abbrev pub IsReply : Event → Type 0
IsReply event = IsPacket REQUEST_SUCCESS event ⊎ IsPacket REQUEST_FAILURE event

-- ---- answers to our opens

-- the records that answer an open of ours, in order
abbrev pub answers_open : Record → Bool
answers_open (Resolved ticket (told.ChannelOpened id)) = true
answers_open (Resolved ticket (told.ChannelOpenFailed reason)) = true
answers_open output = false

abbrev pub open_answers : List Record → List Record
open_answers [] = []
open_answers (output ∷ records) = if answers_open output then output ∷ open_answers records else open_answers records

-- the answer to the open that waits, if one does
abbrev pub answer_waiting : Option (Option Ticket) → Resolution → List Record
answer_waiting None resolution = []
answer_waiting (Some ticket) resolution = answer_to ticket (Some resolution)

-- 91 confirms the open that waits under its number
abbrev pub confirmed_by : SessionState → Result Confirmation WireError → List Record
confirmed_by s (Ok c) = answer_waiting (awaited c.recipient s.table) (told.ChannelOpened (record { 0 = c.recipient }))
confirmed_by s (Err e) = []

-- 92 refuses it, with the reason that the packet gives
abbrev pub refused_by : SessionState → Result (Refusal) WireError → List Record
refused_by s (Ok r) = answer_waiting (awaited r.id.0 s.table) (told.ChannelOpenFailed r.reason)
refused_by s (Err e) = []

-- the answers to our opens that an event brings: none but by these two packets
abbrev pub opens_answered : Event → SessionState → List Record
opens_answered (events.Payload (n ∷ body)) s =
    if n == CHANNEL_OPEN_CONFIRMATION then confirmed_by s (confirmation_of body)
    else if n == CHANNEL_OPEN_FAILURE then refused_by s (refusal_of body)
    else []
opens_answered event s = []

-- a step that ends or refuses may have been cut before the answer
abbrev pub OpensAnswered : Bool → Event → SessionState → List Record → Type 0
OpensAnswered true event was added = open_answers added ≡ opens_answered event was
OpensAnswered false event was added = (open_answers added ≡ []) ⊎ (open_answers added ≡ opens_answered event was)

-- ---- what else answers a ticket

-- Any record but one that resolves a ticket in another way than as an answer to an open of ours, or as the event's own
-- ticket is resolved at once: no login succeeds, and no request is granted, denied or proved.
abbrev pub ResolvesBy : Event → Record → Type 0
ResolvesBy event (Resolved ticket (told.ChannelOpened id)) = Unit {0}
ResolvesBy event (Resolved ticket (told.ChannelOpenFailed reason)) = Unit {0}
ResolvesBy event (Resolved ticket resolution) = ResolvesOwn event ticket resolution
ResolvesBy event output = Unit {0}

-- ---- what isn't written

-- any record but a packet that carries bytes of a channel
abbrev pub IsNoData : Record → Type 0
IsNoData (Payload (n ∷ body)) = ((n == CHANNEL_DATA) ≡ false) × ((n == CHANNEL_EXTENDED_DATA) ≡ false)
IsNoData output = Unit {0}

-- any record but a request to authenticate, what is asked of the user for one, and that the session is open
abbrev pub AuthenticatesNone : Record → Type 0
AuthenticatesNone (Payload (n ∷ body)) = (n == USERAUTH_REQUEST) ≡ false
AuthenticatesNone (Auth ticket asked) = ⊥
AuthenticatesNone Opened = ⊥
AuthenticatesNone output = Unit {0}

-- ---- what the peer's packets bring

-- What a record reports is what the packet says; a reply is one that is wanted, and an open of the peer's is confirmed
-- or refused by its packet or the user's answer.
abbrev pub IsBrought : Event → Record → Type 0
IsBrought event (Payload (n ∷ body)) =
    (n ≡ REQUEST_SUCCESS → Replies true event) × (n ≡ REQUEST_FAILURE → Replies false event)
    × (n ≡ CHANNEL_SUCCESS → (id : ℕ) × RepliesOn id true event) × (n ≡ CHANNEL_FAILURE → (id : ℕ) × RepliesOn id false event)
    × (n ≡ CHANNEL_OPEN_CONFIRMATION → (id : ℕ) × MayAccept id event)
    × (n ≡ CHANNEL_OPEN_FAILURE → (id : ℕ) × (reason : ChannelOpenFailure) × MayReject id reason event)
IsBrought event (Resolved ticket resolution) = Unit {0}
IsBrought event (Payload []) = Unit {0}
IsBrought event BeginExchange = Unit {0}
IsBrought event output = Reports event output

-- what happens to the channels are calls of the table, of which only the peer's packets, the user's answer or an exchange
-- bring those that grant, open, close and receive
pub record MakesCalls (event : Event) (was is : SessionState) : Type 0 where
  pub calls : List Call
  pub table : is.table ≡ (ran calls was.table).table
  pub by : AllByRecursion (MayCall event) calls

-- an open of ours that waits goes on waiting, unless the packet answers it
abbrev pub OpensWait : Event → SessionState → SessionState → Type 0
OpensWait event was is =
    (id : ℕ) (ticket : Option Ticket) → awaited id was.table ≡ Some ticket → AnswersOpenOf id event ⊎ (awaited id is.table ≡ Some ticket)

-- ---- a step

-- `went` says that the session goes on
pub record OpenStepLaws (accepts : Accepts) (event : Event) (was is : SessionState) (went : Bool) : Type 0 where
  -- records are only added
  pub added : List Record
  pub records : is.records ≡ was.records ++ added
  -- session id, user and stored method stay, and nothing is asked or written to authenticate
  pub request : IsSameRequest was.opening is.opening
  pub authenticates : AllByRecursion AuthenticatesNone added
  -- a reply answers the oldest request, by what was asked
  pub replied : went ≡ true → Replied accepts event was is added
  -- Without a reply no request is answered: they wait on. Those added after them are one for each request that was
  -- written with a reply wanted.
  pub waits : (IsReply event → ⊥) → (more : List ReplyEntry) × (is.replies ≡ was.replies ++ more) × Queues added more
  -- without a reply no ticket is resolved but an open's, as the next field says, and the event's own
  pub resolves : (IsReply event → ⊥) → AllByRecursion (λ output. ResolvesBy event output) added
  -- an open of ours is answered by the packet of its own number while it waits, and by nothing else
  pub opened : OpensAnswered went event was added
  -- while keys are exchanged no bytes of a channel are written
  pub quiet : exchanging was ≡ true → (IsExchange event → ⊥) → AllByRecursion IsNoData added
  -- what is reported, replied and settled is what the peer's packet or the user's answer says
  pub says : AllByRecursion (IsBrought event) added
  -- so is what is granted, opened, closed and received on the channels
  pub calls : MakesCalls event was is
  -- the opens of ours that aren't answered wait on
  pub waiting : OpensWait event was is
  -- what the peer's packet says is reported, and the reply that it wants is written
  pub given : went ≡ true → Gives event was added
  -- the session goes on after a key exchange only with the first exchange's host key
  pub key : went ≡ true → HasKeptKey was.opening event

-- ---- a row that was followed

-- only a row that calls the handler lends it the session
abbrev pub Borrowed : Option Callback → SessionState → SessionState → Type 0
Borrowed None lent mid = mid ≡ lent
Borrowed (Some callback) lent mid = Grown lent mid

-- a row was followed to its end and the session goes on, or it was followed as far as it went
pub data Followed (row : SessionRow) (old new : SessionState) : Bool → Type 0 where
  whole : (mid : SessionState) → (answer : OpenAnswer) → row.next ≡ goes → Borrowed row.asks (done row.front old) mid → new ≡ done (row.back answer) mid → Followed row old new true
  front : Fronts row.front old new → Followed row old new false
  behind : (mid : SessionState) → (answer : OpenAnswer) → Borrowed row.asks (done row.front old) mid → Fronts (row.back answer) mid new → Followed row old new false

-- whatever a handler does, a row of an open session keeps the laws
abbrev pub RowsKeepTheLaws : Type 0
RowsKeepTheLaws =
    (accepts : Accepts) (o : Opinions) (event : Event) (s new : SessionState) (went : Bool) → is_live s ≡ true →
    Followed (session_row accepts o s event) s new went → OpenStepLaws accepts event s new went
