-- Until the host key of the first exchange is accepted, no packet of the session is written and the session doesn't get
-- past that exchange (RFC 4253, sections 7 and 8): a law about the table.
use Rattle.std.proofs.Common.{◌≡◌, ◌⊎◌, inl, inr, Bool, true, false, List, None, refl}
use Rattle.std.specs.List.{AllByRecursion}
use Rattle.sshc_key.specs.AskingLaws.{always_also}
use Rattle.sshc_auth_event.specs.declared.event.Event.TheVariants as events
use Rattle.sshc_transport.specs.declared.exchange.ExchangeFlag.TheVariants as flags
use Rattle.sshc_auth.specs.declared.opening.Phase.TheVariants as phases
use Rattle.sshc_auth.specs.declared.step.Told.TheVariants as telling
use Rattle.sshc_auth.specs.EachRowLaws.{TableRows, each_row, exchange_row}
use Rattle.sshc_auth.specs.RowNames.{accepted_row, Always, Asking, ends, Event, exchange_in, ExchangeResult, is_awaiting, IsFirst, IsNoPacket, Next, open_row, OpeningState, opens, Phase, Record, refuses, Row, stays, Told}

-- ---- what the law says

-- none of these is a packet
abbrev pub NonePayload : List Record → Type 0
NonePayload records = AllByRecursion IsNoPacket records

-- an exchange whose host key the gate accepts
abbrev pub IsAccepted : Event → Told → Type 0
IsAccepted (events.ExchangeDone x) told = told ≡ telling.Went
IsAccepted event told = ⊥

abbrev pub IsNoExchange : Event → Type 0
IsNoExchange (events.ExchangeDone x) = ⊥
IsNoExchange event = Unit {0}

-- the session doesn't get past the first exchange; if it isn't over, the event was no finished exchange
abbrev pub FirstNext : Event → Next → Type 0
FirstNext event (stays s) = IsFirst s × IsNoExchange event
FirstNext event (opens s) = ⊥
FirstNext event (ends e) = Unit {0}
FirstNext event (refuses e) = Unit {0}

abbrev pub StaysFirst : Event → Row → Type 0
StaysFirst event row = NonePayload row.records × FirstNext event row.next

-- ---- the law

no_exchange : (event : Event) → exchange_in event ≡ None → IsNoExchange event
no_exchange (events.ExchangeDone x) none = absurd cc
no_exchange event none = tt

-- no answer is awaited while the first exchange runs, and no user's event may come
calm : (phase : Phase) → phase ≡ phases.Exchanging → is_awaiting phase ≡ true → ⊥
calm phases.Exchanging is awaits = cc
calm phase is awaits = cc

no_users : (s : OpeningState) → IsFirst s → (is_awaiting s.phase ≡ true) ⊎ (s.flag ≡ flags.Idle) → ⊥
no_users s first (inl awaits) = calm s.phase first.exchanging awaits
no_users s first (inr idle) = first.runs idle

abbrev FirstUnless : Told → Event → Asking Row → Type 0
FirstUnless told event row = (IsAccepted event told → ⊥) → Always (StaysFirst event) row

first_rows : (s : OpeningState) (told : Told) → IsFirst s → TableRows (FirstUnless told) s told
first_rows s told first = record {
  refusal = λ event e other is denied. (tt, tt);
  disconnected = λ event info is denied. (tt, tt);
  passed = λ event none denied. (tt, (first, no_exchange event none));
  begins = λ idle. absurd (first.runs idle);
  joins = λ running denied.
      (tt, (record { exchanging = first.exchanging; runs = λ same. absurd cc; fresh = first.fresh }, tt));
  accepted = λ x exchanging went denied. absurd (denied went);
  opened = λ x exchanging went anonymous denied. absurd (denied went);
  later = λ x behind same denied. absurd (behind first.exchanging);
  packets = λ n body counted behind. absurd (behind first.exchanging);
  users = λ turn. absurd (no_users s first turn);
}

-- while the first exchange runs, no packet is written and the session doesn't get past that exchange, unless the event
-- is an exchange whose host key is accepted
pub first_law : (s : OpeningState) (event : Event) (told : Told) → IsFirst s → (IsAccepted event told → ⊥) → Always (StaysFirst event) (open_row s event told)
first_law s event told first denied = each_row (FirstUnless told) s told (first_rows s told first) event denied

-- ---- the first exchange, whatever the gate returns

-- an exchange is done that was accepted; its hash is the session id, and its host key is kept
abbrev pub TakesFirst : Event → Told → OpeningState → Type 0
TakesFirst event told t = (x : ExchangeResult) × (event ≡ events.ExchangeDone x) × (told ≡ telling.Went) × (t.session_id ≡ x.session_hash) × (t.host_key ≡ x.key)

abbrev pub FirstOrTaken : Event → Told → Next → Type 0
FirstOrTaken event told (stays t) = IsFirst t ⊎ TakesFirst event told t
FirstOrTaken event told (opens t) = TakesFirst event told t
FirstOrTaken event told (ends e) = Unit {0}
FirstOrTaken event told (refuses e) = Unit {0}

-- no packet is written, and the session gets past the first exchange only if the exchange is accepted
abbrev pub FirstRow : Event → Told → Row → Type 0
FirstRow event told row = NonePayload row.records × FirstOrTaken event told row.next

next_also : (event : Event) (told : Told) (next : Next) → FirstNext event next → FirstOrTaken event told next
next_also event told (stays t) first = inl first.0
next_also event told (opens t) never = absurd never
next_also event told (ends e) first = tt
next_also event told (refuses e) first = tt

stays_also : (event : Event) (told : Told) (row : Row) → StaysFirst event row → FirstRow event told row
stays_also event told row first = (first.0, next_also event told row.next first.1)

accepted_first : (s : OpeningState) (x : ExchangeResult) (anonymous : Bool) →
    FirstRow (events.ExchangeDone x) telling.Went (accepted_row anonymous s x)
accepted_first s x false = (((λ never. never), tt), inr (x, refl, refl, refl, refl))
accepted_first s x true = (((λ never. never), ((λ never. never), tt)), (x, refl, refl, refl, refl))

went_first : (s : OpeningState) (x : ExchangeResult) → IsFirst s →
    Always (FirstRow (events.ExchangeDone x) telling.Went) (open_row s (events.ExchangeDone x) telling.Went)
went_first s x first =
    exchange_row (Always (FirstRow (events.ExchangeDone x) telling.Went)) s x telling.Went (λ e other is. (tt, tt))
    (λ exchanging went. accepted_first s x s.settings.anonymous) (λ behind same. absurd (behind first.exchanging))

-- while the first exchange runs, no packet is written, and the session gets past it only if the exchange is accepted
pub first_row : (s : OpeningState) (event : Event) (told : Told) → IsFirst s → Always (FirstRow event told) (open_row s event told)
first_row s (events.ExchangeDone x) telling.Went first = went_first s x first
first_row s (events.ExchangeDone x) told first =
    always_also (StaysFirst (events.ExchangeDone x)) (FirstRow (events.ExchangeDone x) told) (open_row s (events.ExchangeDone x) told) (λ row stays_so. stays_also (events.ExchangeDone x) told row stays_so)
    (first_law s (events.ExchangeDone x) told first (λ went. absurd cc))
first_row s event told first =
    always_also (StaysFirst event) (FirstRow event told) (open_row s event told) (λ row stays_so. stays_also event told row stays_so) (first_law s event told first (λ never. never))
