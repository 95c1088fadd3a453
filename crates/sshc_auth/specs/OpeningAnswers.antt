-- What a step of the opening may answer: success and failure of a login, banners, prompts and the steps of GSSAPI are
-- those of the packet, and a ticket is resolved by what belongs to it (RFC 4252, sections 5 and 7; RFC 4256, section
-- 3.2; RFC 4462, section 3; RFC 8308, section 2.3). No row of the table is named, so that an error made both in the
-- table and in the code shows.
use Rattle.std.specs.Prelude.{◌≡◌, ◌≢◌, ◌⊎◌, ℕ, Bool, true, false, List, [], ◌∷◌, ◌++◌, length, Some, None, Ok}
use Rattle.std.specs.Int.{w32}
use Rattle.std.specs.List.{AllByRecursion}
use Rattle.sshc_wire.specs.Names.{names_in}
use Rattle.sshc_wire.specs.Reads.{boolean_at, number_at, string_at, text_at}
use Rattle.sshc_wire.specs.Records.{IsResolved}
use Rattle.sshc_wire.specs.MessageNumbers.{EXT_INFO, USERAUTH_FAILURE, USERAUTH_SUCCESS, USERAUTH_BANNER, USERAUTH_PK_OK, USERAUTH_GSSAPI_TOKEN, USERAUTH_GSSAPI_ERROR, USERAUTH_GSSAPI_ERRTOK}
use Rattle.sshc_wire.specs.declared.auth_record.AuthRecord.TheVariants.{AuthInfoRequest, Gssapi}
use Rattle.sshc_wire.specs.declared.auth_record.GssapiRecord.{GssapiRecord}
use Rattle.sshc_wire.specs.declared.auth_record.GssapiRecord.TheVariants as gssapi
use Rattle.sshc_wire.specs.declared.auth_record.Prompt.{Prompt}
use Rattle.sshc_wire.specs.declared.record.Record.{Record}
use Rattle.sshc_wire.specs.declared.record.Record.TheVariants as records
use Rattle.sshc_wire.specs.declared.resolution.Resolution.{Resolution}
use Rattle.sshc_wire.specs.declared.resolution.Resolution.TheVariants as answers
use Rattle.sshc_wire.specs.declared.ticket.Ticket.{Ticket}
use Rattle.sshc_auth_event.specs.declared.event.Event.{Event}
use Rattle.sshc_auth_event.specs.declared.event.Event.TheVariants as events
use Rattle.sshc_auth_request.specs.RequestTexts.{mic}
use Rattle.sshc_auth.specs.declared.extension.Extension.{Extension}
use Rattle.sshc_auth.specs.declared.opening.Class.TheVariants as classes
use Rattle.sshc_auth.specs.declared.opening.Phase.TheVariants as phases
use Rattle.sshc_auth.specs.declared.opening.Waiter.{Waiter}
use Rattle.sshc_auth.specs.declared.step.Step.{Step}
use Rattle.sshc_auth.specs.declared.step.Step.TheVariants as steps
use Rattle.sshc_auth.specs.Extensions.{extensions_at, waits_for}
use Rattle.sshc_auth.specs.OpeningState.{OpeningState, is_awaiting}
use Rattle.sshc_auth.specs.OpeningTable.Auth.{known_methods}
use Rattle.sshc_auth.specs.OpeningTable.Awaiting.{is_signed}
use Rattle.sshc_auth.specs.OpeningTable.Order.{ticket_of}
use Rattle.sshc_auth.specs.OpeningTable.User.{is_seen}
use Rattle.sshc_auth.specs.Said as said
use Rattle.sshc_auth.specs.Said.{Said}
use Rattle.sshc_auth.specs.Stepping.{Lent, may_ask}

-- ---- what a packet says

-- prompts in a row: of each a text, and whether what the user types may be shown (RFC 4256, section 3.2)
abbrev pub ArePrompts : List Prompt → List ℕ → List ℕ → Type 0
ArePrompts [] body left = left ≡ body
ArePrompts (asked ∷ more) body left =
    (rest after : List ℕ) × (text_at body ≡ Ok (asked.prompt, rest)) × (boolean_at rest ≡ Ok (asked.echo, after)) × ArePrompts more after left

-- a string, and nothing after it
abbrev IsString : List ℕ → List ℕ → Type 0
IsString bytes body = string_at body ≡ Ok (bytes, [])

-- a step of GSSAPI, with the text for a MIC where one is due (RFC 4462, sections 3.3, 3.4, 3.8 and 3.9)
abbrev pub SaysStep : List ℕ → ℕ → List ℕ → GssapiRecord → Type 0
SaysStep text n body (gssapi.Response mechanism own) = (n ≡ USERAUTH_PK_OK) × IsString mechanism body × (own ≡ text)
SaysStep text n body (gssapi.Token token own) = (n ≡ USERAUTH_GSSAPI_TOKEN) × IsString token body × (own ≡ text)
SaysStep text n body (gssapi.ErrorToken token) = (n ≡ USERAUTH_GSSAPI_ERRTOK) × IsString token body
SaysStep text n body (gssapi.Error major minor message) =
    (n ≡ USERAUTH_GSSAPI_ERROR)
    × (a b c language : List ℕ) × (number_at w32 body ≡ Ok (major, a)) × (number_at w32 a ≡ Ok (minor, b)) × (text_at b ≡ Ok (message, c)) × (text_at c ≡ Ok (language, []))

-- a packet of this number and these bytes says it
abbrev pub Says : OpeningState → ℕ → List ℕ → Said → Type 0
Says s n body said.success = (s.phase ≡ phases.Auth) × (n ≡ USERAUTH_SUCCESS) × (body ≡ [])
Says s n body (said.failure known partial) =
    (s.phase ≡ phases.Auth) × (n ≡ USERAUTH_FAILURE)
    × (list rest : List ℕ) × (text_at body ≡ Ok (list, rest)) × (boolean_at rest ≡ Ok (partial, [])) × (known ≡ known_methods (names_in list))
Says s n body (said.banner shown) =
    (s.phase ≡ phases.Auth) × (n ≡ USERAUTH_BANNER)
    × (rest language : List ℕ) × (text_at body ≡ Ok (shown, rest)) × (text_at rest ≡ Ok (language, []))
Says s n body (said.prompts name instructions asked) =
    (s.phase ≡ phases.Auth) × (s.class ≡ classes.Prompts) × (n ≡ USERAUTH_PK_OK)
    × (a b c d language : List ℕ) × (text_at body ≡ Ok (name, a)) × (text_at a ≡ Ok (instructions, b)) × (text_at b ≡ Ok (language, c))
    × (number_at w32 c ≡ Ok (length asked, d)) × ArePrompts asked d []
Says s n body (said.step token) = (s.phase ≡ phases.Auth) × (s.class ≡ classes.Gssapi) × SaysStep (mic s.session_id s.user) n body token
Says s n body (said.extensions told) = (n ≡ EXT_INFO) × (extensions_at body ≡ Ok (told, []))

-- the event is a packet that says it
abbrev pub IsSaid : OpeningState → Event → Said → Type 0
IsSaid s (events.Payload (n ∷ body)) what = Says s n body what
IsSaid s event what = ⊥

-- ---- how a ticket is resolved

abbrev pub IsAmong : {A : Type 0} → A → List A → Type 0
IsAmong x [] = ⊥
IsAmong x (y ∷ ys) = (x ≡ y) ⊎ IsAmong x ys

-- an extension of the name that is waited for is told
abbrev pub TellsName : Waiter → List Extension → Type 0
TellsName waiter [] = ⊥
TellsName waiter (extension ∷ more) = (waits_for extension.name waiter ≡ true) ⊎ TellsName waiter more

-- someone waits with this ticket for an extension that the packet tells
abbrev pub IsWaiters : OpeningState → Event → Ticket → Type 0
IsWaiters s event ticket = (waiter : Waiter) × (told : List Extension) × IsAmong waiter s.waiters × (ticket ≡ waiter.ticket) × IsSaid s event (said.extensions told) × TellsName waiter told

-- the user asks now for an extension that was told before
abbrev pub WasTold : OpeningState → Event → Ticket → Type 0
WasTold s (events.AwaitExtensionInfo own name) ticket = (ticket ≡ own) × (is_seen s.seen name ≡ true)
WasTold s event ticket = ⊥

-- the user asks for the signature names that were told
abbrev pub AsksNames : OpeningState → Event → Ticket → Bool → List (List ℕ) → Type 0
AsksNames s (events.GetServerSigAlgs own) ticket false names = (ticket ≡ own) × (s.sig_algs ≡ None) × (names ≡ [])
AsksNames s (events.GetServerSigAlgs own) ticket true names = (ticket ≡ own) × (s.sig_algs ≡ Some names)
AsksNames s event ticket known names = ⊥

-- the user asks for what only an open session has
abbrev pub NeedsOpen : Event → Ticket → Type 0
NeedsOpen (events.TcpIpForward own address port) ticket = ticket ≡ own
NeedsOpen (events.CancelTcpIpForward own address port) ticket = ticket ≡ own
NeedsOpen (events.StreamLocalForward own path) ticket = ticket ≡ own
NeedsOpen (events.CancelStreamLocalForward own path) ticket = ticket ≡ own
NeedsOpen (events.Ping own) ticket = ticket ≡ own
NeedsOpen (events.SendGlobalRequest own name body) ticket = ticket ≡ own
NeedsOpen (events.HostKeysProve own (key ∷ keys)) ticket = ticket ≡ own
NeedsOpen event ticket = ⊥

-- no key is to be proved
abbrev pub ProvesNone : Event → Ticket → Type 0
ProvesNone (events.HostKeysProve own []) ticket = ticket ≡ own
ProvesNone event ticket = ⊥

-- the user asks to log in again, or an outside signer didn't sign
abbrev pub LosesLogin : OpeningState → Event → Type 0
LosesLogin s (events.Authenticate ticket user method) = Unit {0}
LosesLogin s (events.Signed body) = (s.phase ≡ phases.AwaitSignature) × (is_signed s.handed body ≡ false)
LosesLogin s events.SignFailed = s.phase ≡ phases.AwaitSignature
LosesLogin s event = ⊥

abbrev pub MayResolve : OpeningState → Event → Ticket → Resolution → Type 0
MayResolve s event ticket answers.AuthSuccess = (ticket ≡ s.ticket) × IsSaid s event said.success
MayResolve s event ticket (answers.AuthFailure known partial) = (ticket ≡ s.ticket) × IsSaid s event (said.failure known partial)
MayResolve s event ticket answers.ExtInfoSeen = WasTold s event ticket ⊎ IsWaiters s event ticket
MayResolve s event ticket (answers.SigAlgs known names) = AsksNames s event ticket known names
MayResolve s event ticket answers.Denied = NeedsOpen event ticket
MayResolve s event ticket answers.HostKeysProved = ProvesNone event ticket
MayResolve s event ticket answers.Dropped = ((ticket ≡ s.ticket) × LosesLogin s event) ⊎ ((is_awaiting s.phase ≡ true) × (ticket ≡ ticket_of event))
MayResolve s event ticket answer = ⊥

-- ---- what a step adds

-- the session opens: the server accepted the login, or the first exchange of an anonymous session is done
abbrev pub MayOpen : OpeningState → Event → Type 0
MayOpen s (events.ExchangeDone x) = (s.phase ≡ phases.Exchanging) × (s.settings.anonymous ≡ true)
MayOpen s event = IsSaid s event said.success

-- an exchange of these names is done
abbrev pub HasNames : Event → List ℕ → Type 0
HasNames (events.ExchangeDone x) kex = kex ≡ x.names.kex
HasNames event kex = ⊥

abbrev pub MayAdd : OpeningState → Event → Record → Type 0
MayAdd s event (records.Payload packet) = Unit {0}
MayAdd s event records.BeginExchange = Unit {0}
MayAdd s event (records.Resolved ticket answer) = (ticket.0 ≢ 0) × MayResolve s event ticket answer
MayAdd s event (records.Auth ticket (AuthInfoRequest name instructions asked)) = (ticket ≡ s.ticket) × IsSaid s event (said.prompts name instructions asked)
MayAdd s event (records.Auth ticket (Gssapi token)) = (ticket ≡ s.ticket) × IsSaid s event (said.step token)
MayAdd s event (records.Auth ticket asked) = ticket ≡ s.ticket
MayAdd s event (records.AuthBanner shown) = IsSaid s event (said.banner shown)
MayAdd s event (records.KexDone kex) = HasNames event kex
MayAdd s event records.Opened = MayOpen s event
MayAdd s event output = ⊥

-- the session is open only by what opens it
abbrev pub OpensBy : {E : Type 0} → OpeningState → Event → Step E → Type 0
OpensBy s event steps.Opened = MayOpen s event
OpensBy s event result = Unit {0}

-- what the gate adds are answers to tickets, where it is told of an exchange or a banner; what the step adds after them
-- is what the event may add
pub record AddsAnswers {E : Type 0} (event : Event) (was is : Lent) (result : Step E) : Type 0 where
  pub by_gate : List Record
  pub own : List Record
  pub added : is.outbox.records ≡ was.outbox.records ++ (by_gate ++ own)
  pub resolved : AllByRecursion IsResolved by_gate
  pub told : (by_gate ≡ []) ⊎ (may_ask event ≡ true)
  pub may : AllByRecursion (MayAdd was.opening event) own
  pub opens : OpensBy was.opening event result
