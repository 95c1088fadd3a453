-- What a step does with a gate: the gate is asked what the event's row asks, and the row depends on what the gate
-- returned.
-- The gate's results are whatever its relations allow; the code calls it in between.
use Rattle.std.specs.Prelude.{◌≡◌, ◌≤◌, ◌⊎◌, ◌==◌, ℕ, Bool, true, false, List, [], ◌∷◌, ◌++◌, Option, Some, None, Result, Ok, Err}
use Rattle.std.specs.List.{AllByRecursion}
use Rattle.sshc_wire.specs.declared.record.Record.{Record}
use Rattle.sshc_wire.specs.MessageNumbers.{USERAUTH_BANNER}
use Rattle.sshc_wire.specs.Outgoing.{Outgoing}
use Rattle.sshc_wire.specs.Records.{IsResolved}
use Rattle.sshc_key.specs.Signers.{SignCall, since}
use Rattle.sshc_key.specs.declared.identity.PublicKeyOrCertificate.{PublicKeyOrCertificate}
use Rattle.sshc_auth.specs.declared.error.Error.{Error}
use Rattle.sshc_auth.specs.declared.error.Error.TheVariants.{NoMemory}
use Rattle.sshc_auth_event.specs.declared.event.Event.{Event}
use Rattle.sshc_auth_event.specs.declared.event.Event.TheVariants.{ExchangeDone, Payload}
use Rattle.sshc_transport.specs.declared.exchange.ExchangeResult.{ExchangeResult}
use Rattle.sshc_transport.specs.declared.exchange.ExchangeNames.{ExchangeNames}
use Rattle.sshc_auth.specs.declared.step.Asks.{Asks}
use Rattle.sshc_auth.specs.declared.step.Asks.TheVariants as asking
use Rattle.sshc_auth.specs.declared.step.Told.{Told}
use Rattle.sshc_auth.specs.declared.step.Told.TheVariants as telling
use Rattle.sshc_auth.specs.declared.step.Step.{Step}
use Rattle.sshc_auth.specs.declared.step.Step.TheVariants as steps
use Rattle.sshc_auth.specs.OpeningState.{OpeningState, shut}
use Rattle.sshc_auth.specs.OpeningTable.{open_row, asked_of}
use Rattle.sshc_auth.specs.Row.{Span, Steps}

-- ---- what a step is lent

-- what a call of the opening is lent, as it is at one moment
pub record Lent : Type 0 where
  pub opening : OpeningState
  pub outbox : Outgoing
  -- the signer's calls, and how often it refused
  pub calls : List SignCall
  pub refusals : ℕ

abbrev pub lent : OpeningState → Outgoing → List SignCall → ℕ → Lent
lent opening outbox calls refusals = record { opening = opening; outbox = outbox; calls = calls; refusals = refusals }

-- the opening and the outbox of two moments
abbrev pub span_of : Lent → Lent → Span
span_of was is = record { before = was.opening; after = is.opening; old = was.outbox; new = is.outbox }

-- the calls that the signer's list gained
abbrev pub gained : Lent → Lent → List SignCall
gained was is = since was.calls is.calls

-- the same with a gate: how often it refused, and what it judges by
pub record LentGate : Type 0 where
  pub rest : Lent
  pub refusals : ℕ
  pub setting : List (List ℕ)

abbrev pub with_gate : Lent → ℕ → List (List ℕ) → LentGate
with_gate rest refusals setting = record { rest = rest; refusals = refusals; setting = setting }

-- ---- what a gate may return

-- the relations of a gate: how it reports an error of the opening, what it may return for a host key, and what it may
-- return and add for an exchange, by its secret and its names, or for a banner, by its text
pub record GateAnswers (E : Type 0) : Type 1 where
  pub told_as : Error → E
  pub judges : PublicKeyOrCertificate → Result Bool E → Type 0
  pub tells : Option (List ℕ) → ExchangeNames → Result (Unit {0}) E → List Record → Type 0
  pub tells_banner : List ℕ → Result (Unit {0}) E → List Record → Type 0

abbrev pub gate_answers : {E : Type 0} → (Error → E) → (PublicKeyOrCertificate → Result Bool E → Type 0) → (Option (List ℕ) → ExchangeNames → Result (Unit {0}) E → List Record → Type 0) → (List ℕ → Result (Unit {0}) E → List Record → Type 0) → GateAnswers E
gate_answers told_as judges tells tells_banner = record { told_as = told_as; judges = judges; tells = tells; tells_banner = tells_banner }

-- a gate's call added only answers to tickets, as its relation allows
abbrev pub Adds : {E : Type 0} → (Result (Unit {0}) E → List Record → Type 0) → Outgoing → Outgoing → Result (Unit {0}) E → Type 0
Adds tells old new result =
    (more : List Record) × tells result more × AllByRecursion IsResolved more × (new.records ≡ old.records ++ more) × (new.muted ≡ old.muted)

-- the exchange of an event that is one
abbrev pub exchange_in : Event → Option ExchangeResult
exchange_in (ExchangeDone x) = Some x
exchange_in event = None

-- what a gate may return and add when its `kex_done` is called
abbrev pub told_of : {E : Type 0} → GateAnswers E → Option ExchangeResult → Result (Unit {0}) E → List Record → Type 0
told_of gate (Some x) answer more = gate.tells x.secret x.names answer more
told_of gate None answer more = ⊥

-- a gate that was notified let the row continue, or refused
abbrev pub Tells : {E : Type 0} → (Result (Unit {0}) E → List Record → Type 0) → Outgoing → Outgoing → Result Told E → Type 0
Tells tells old new (Ok told) = (told ≡ telling.Went) × ((u : Unit {0}) × Adds tells old new (Ok u))
Tells tells old new (Err e) = Adds tells old new (Err e)

-- by the gate's verdict on the host key: its `kex_done` is called if it accepts the key
abbrev pub Judged : {E : Type 0} → (Result (Unit {0}) E → List Record → Type 0) → Outgoing → Outgoing → Result Told E → Result Bool E → Type 0
Judged tells old new result (Ok true) = Tells tells old new result
Judged tells old new result (Ok false) = (result ≡ Ok telling.No) × (new ≡ old)
Judged tells old new result (Err e) = (result ≡ Err e) × (new ≡ old)

-- by what the row asks: what the gate returned and added
abbrev pub Answered : {E : Type 0} → GateAnswers E → Option ExchangeResult → Outgoing → Outgoing → Result Told E → Asks → Type 0
Answered gate x old new result asking.Nothing = (result ≡ Ok telling.NotAsked) × (new ≡ old)
Answered {E = E} gate x old new result (asking.HostKey key) = (verdict : Result Bool E) × gate.judges key verdict × Judged (told_of gate x) old new result verdict
Answered gate x old new result asking.Exchange = Tells (told_of gate x) old new result
Answered gate x old new result (asking.Banner text) = Tells (gate.tells_banner text) old new result

-- the packet has the number of a banner (RFC 4252, section 5.4)
abbrev pub is_banner : List ℕ → Bool
is_banner [] = false
is_banner (n ∷ body) = n == USERAUTH_BANNER

-- the kinds of events whose rows may ask the gate
abbrev pub may_ask : Event → Bool
may_ask (ExchangeDone x) = true
may_ask (Payload packet) = is_banner packet
may_ask event = false

-- an exchange is there where the gate is asked for one
abbrev pub HasExchange : Asks → Option ExchangeResult → Type 0
HasExchange (asking.HostKey key) None = ⊥
HasExchange asking.Exchange None = ⊥
HasExchange asks x = Unit {0}

-- ---- the step

-- a step's result, with its error as a gate reports it
abbrev pub map_step : {E : Type 0} → (Error → E) → Step Error → Step E
map_step told_as steps.Went = steps.Went
map_step told_as steps.Opened = steps.Opened
map_step told_as (steps.Ended e) = steps.Ended e
map_step told_as (steps.Refused e) = steps.Refused (told_as e)
map_step told_as steps.Closed = steps.Closed

-- the gate refused: the opening is closed, and nothing more is added
abbrev pub GateRefused : {E : Type 0} → E → Lent → Lent → Step E → Type 0
GateRefused e was is result = (result ≡ steps.Refused e) × (is.opening ≡ shut was.opening) × (is.outbox ≡ was.outbox) × (is.calls ≡ was.calls)

-- by what the gate returned: the step is the row's, with its error as the gate reports it, or the gate refused
abbrev pub StepsTold : {E : Type 0} → GateAnswers E → Event → Lent → Lent → Step E → Result Told E → Type 0
StepsTold gate event was is result (Ok told) =
    (answer : Step Error) × (result ≡ map_step gate.told_as answer) × Steps (open_row was.opening event told) (gained was is) (span_of was is) answer
StepsTold gate event was is result (Err e) = GateRefused e was is result

-- memory ran out before the gate was asked; or it was asked what the row asks, and the row's records follow those it
-- added
abbrev pub StepsBy : {E : Type 0} → GateAnswers E → Event → Lent → Lent → Step E → Type 0
StepsBy {E = E} gate event was is result =
    GateRefused (gate.told_as NoMemory) was is result
    ⊎ ((told : Result Told E) × (mid : Outgoing) × Answered gate (exchange_in event) was.outbox mid told (asked_of was.opening event)
    × StepsTold gate event (record was { outbox = mid }) is result told)

-- a closed opening returns `Closed`, nothing changes, and the signer isn't asked
abbrev pub StaysClosed : {E : Type 0} → Lent → Lent → Step E → Type 0
StaysClosed was is result =
    (was.opening.closed ≡ true) → (result ≡ steps.Closed) × (is.opening ≡ was.opening) × (is.outbox ≡ was.outbox) × (is.calls ≡ was.calls)

-- the signer's list keeps its calls, and its count of refusals never falls
pub record SignerGrows (calls calls' : List SignCall) (refusals refusals' : ℕ) : Type 0 where
  pub gained : calls' ≡ calls ++ since calls calls'
  pub later : refusals ≤ refusals'

-- a gate's count of refusals never falls, and it keeps what it judges by
pub record GateKeeps (refusals refusals' : ℕ) (setting setting' : List (List ℕ)) : Type 0 where
  pub later : refusals ≤ refusals'
  pub kept : setting' ≡ setting
