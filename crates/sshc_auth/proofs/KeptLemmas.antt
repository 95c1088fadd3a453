-- What each row of the table satisfies, every step satisfies.
use Rattle.std.proofs.Common.{◌≡◌, ◌≢◌, ◌⊎◌, inl, inr, Bool, true, false, List, [], ◌∷◌, ◌++◌, Option, Some, None, Result, Ok, Err, refl, ap, sym, ◌∙◌, subst, append-nil, append_assoc}
use Rattle.std.proofs.Math.Seq.{drop-length}
use Rattle.std.specs.List.{AllByRecursion}
use Rattle.sshc_wire.specs.declared.auth_record.AuthRecord.TheVariants.{SignRequest, SignRequestCert}
use Rattle.sshc_wire.specs.declared.record.Record.TheVariants as records
use Rattle.sshc_key.specs.Asking.{MakesFirst}
use Rattle.sshc_key.specs.AskingLaws.{all_first, always_makes}
use Rattle.sshc_key.specs.Signers.{since}
use Rattle.sshc_key.specs.declared.signer.Asker.TheVariants.{Session}
use Rattle.sshc_auth_event.specs.declared.event.Event.TheVariants as events
use Rattle.sshc_auth.specs.declared.error.Error.TheVariants.{NoMemory}
use Rattle.sshc_auth.specs.declared.opening.Phase.TheVariants as phases
use Rattle.sshc_auth.specs.declared.step.Asks.TheVariants as asking
use Rattle.sshc_auth.specs.declared.step.Step.TheVariants as steps
use Rattle.sshc_auth.specs.declared.step.Told.TheVariants as telling
use Rattle.sshc_auth.specs.AnswerLaws.{NextOpens, RowAnswers, row_answers}
use Rattle.sshc_auth.specs.AskedLaws.{AsksFor, IsKeyAtMost, asks_for, first_at_most, unasked}
use Rattle.sshc_auth.specs.OpeningAnswers.{MayAdd, OpensBy}
use Rattle.sshc_auth.specs.Stepping.{may_ask}
use Rattle.sshc_auth.specs.GateLaws.{FirstRow, FirstOrTaken, TakesFirst, first_row}
use Rattle.sshc_auth.specs.OneKeyLaws.{HasKeyNext, HasKeyRow, later_row}
use Rattle.sshc_auth.specs.KeepLaws.{HandsAll, HandsBytes, Keeps, KeepsNext, KeepsState, KeepsAsked, KeepsAsking, SettledNext, open_keeps}
use Rattle.sshc_auth.specs.OpeningState.{shut}
use Rattle.sshc_auth.specs.SessionWords.{IsReported, AddsHandedOnce, AddsOnly, HandsLast, HandsOnce, GoesOnFirst, AcceptsFirst, KeepsKey, HasKeptKey, Continues, HandsStored, IsSettled, AsksOnce, Stores, KeepsTo}
use Rattle.sshc_auth.specs.ToldLaws.{Reports, ReportsNext, ReportsRow, row_reports}
use Rattle.sshc_auth.specs.RowNames.{Answered, asked_of, Asking, Asks, asks, done, Error, Event, exchange_in, ExchangeResult, gained, GateAnswers, GateRefused, HandsNothing, IsFirst, IsKeptKey, IsNoPacket, IsResolved, Judged, KeepsRequest, KeepsSession, Kept, kept, kept_of, Lent, Makes, map_step, Next, open_row, OpeningState, opens, Outgoing, PublicKeyOrCertificate, Record, reported, Row, shown, SignCall, SignsStored, Span, span_of, stays, StaysClosed, Step, Steps, StepsBy, Tells, Told, told_of}

-- ---- what was added

-- the records that a gate added are answers to tickets
pub record GateAdds (old mid : Outgoing) : Type 0 where
  pub more : List Record
  pub added : mid.records ≡ old.records ++ more
  pub answers : AllByRecursion IsResolved more

pub nothing_added : (old mid : Outgoing) → mid ≡ old → GateAdds old mid
nothing_added old mid same = record { more = []; added = ap (λ (o : Outgoing). o.records) same ∙ sym (append-nil old.records); answers = tt }

by_gate : {E : Type 0} (tells : Result (Unit {0}) E → List Record → Type 0) (old mid : Outgoing) (told : Result Told E) → Tells tells old mid told → GateAdds old mid
by_gate tells old mid (Ok told) (went, (u, (more, told_so, resolved, added, muted))) = record { more = more; added = added; answers = resolved }
by_gate tells old mid (Err e) (more, told_so, resolved, added, muted) = record { more = more; added = added; answers = resolved }

by_verdict : {E : Type 0} (tells : Result (Unit {0}) E → List Record → Type 0) (old mid : Outgoing) (told : Result Told E) (verdict : Result Bool E) → Judged tells old mid told verdict → GateAdds old mid
by_verdict tells old mid told (Ok true) judged = by_gate tells old mid told judged
by_verdict tells old mid told (Ok false) (is, same) = nothing_added old mid same
by_verdict tells old mid told (Err e) (is, same) = nothing_added old mid same

pub gate_adds : {E : Type 0} (gate : GateAnswers E) (event : Event) (old mid : Outgoing) (told : Result Told E) (wanted : Asks) → Answered gate (exchange_in event) old mid told wanted → GateAdds old mid
gate_adds gate event old mid told asking.Nothing (is, same) = nothing_added old mid same
gate_adds gate event old mid told (asking.HostKey key) (verdict, judges, judged) = by_verdict (told_of gate (exchange_in event)) old mid told verdict judged
gate_adds gate event old mid told asking.Exchange tells = by_gate (told_of gate (exchange_in event)) old mid told tells
gate_adds gate event old mid told (asking.Banner text) tells = by_gate (gate.tells_banner text) old mid told tells

all_two : (P : Record → Type 0) (a b : List Record) → AllByRecursion P a → AllByRecursion P b → AllByRecursion P (a ++ b)
all_two P [] b one other = other
all_two P (output ∷ a) b one other = (one.0, all_two P a b one.1 other)

kept_all : (P : Record → Type 0) (muted : Bool) (output : Record) → P output → AllByRecursion P (kept muted output)
kept_all P false output holds = (holds, tt)
kept_all P true (records.Payload packet) holds = tt
kept_all P true output holds = (holds, tt)

shown_all : (P : Record → Type 0) (muted : Bool) (output : List Record) → AllByRecursion P output → AllByRecursion P (shown muted output)
shown_all P muted [] holds = tt
shown_all P muted (one ∷ output) holds = all_two P (kept muted one) (shown muted output) (kept_all P muted one holds.0) (shown_all P muted output holds.1)

resolved_all : (P : Record → Type 0) → ((output : Record) → IsResolved output → P output) → (output : List Record) → AllByRecursion IsResolved output → AllByRecursion P output
resolved_all P each [] holds = tt
resolved_all P each (one ∷ output) holds = (each one holds.0, resolved_all P each output holds.1)

no_packet : (output : Record) → IsResolved output → IsNoPacket output
no_packet (records.Resolved ticket resolution) is = λ never. never
no_packet output never = absurd never

none_handed : (k : Kept) (output : Record) → IsResolved output → HandsStored k output
none_handed k (records.Resolved ticket resolution) is = tt
none_handed k output never = absurd never

nothing_handed : (output : Record) → IsResolved output → HandsNothing output
nothing_handed (records.Resolved ticket resolution) is = tt
nothing_handed output never = absurd never

-- ---- bytes that are handed out

stored_bytes : (k : Kept) (next : Next) (output : Record) (later : List Record) → HandsBytes k next output later → HandsStored k output
stored_bytes k next (records.Auth ticket (SignRequest blob hash bytes)) later hands = hands.0
stored_bytes k next (records.Auth ticket (SignRequestCert blob hash bytes)) later hands = hands.0
stored_bytes k next output later hands = tt

stored_all : (k : Kept) (next : Next) (output : List Record) → HandsAll k next output → AllByRecursion (HandsStored k) output
stored_all k next [] hands = tt
stored_all k next (one ∷ output) hands = (stored_bytes k next one output hands.0, stored_all k next output hands.1)

nothing_last : (t : OpeningState) (calls : List SignCall) (output : Record) (later : List Record) → HandsNothing output → HandsLast t calls output later
nothing_last t calls (records.Auth ticket (SignRequest blob hash bytes)) later never = absurd never
nothing_last t calls (records.Auth ticket (SignRequestCert blob hash bytes)) later never = absurd never
nothing_last t calls output later none = tt

none_once : (t : OpeningState) (calls : List SignCall) (output : List Record) → AllByRecursion HandsNothing output → HandsOnce t calls output
none_once t calls [] none = tt
none_once t calls (one ∷ output) none = (nothing_last t calls one output none.0, none_once t calls output none.1)

behind_once : (t : OpeningState) (calls : List SignCall) (a b : List Record) → AllByRecursion HandsNothing a → HandsOnce t calls b → HandsOnce t calls (a ++ b)
behind_once t calls [] b none once = once
behind_once t calls (one ∷ a) b none once = (nothing_last t calls one (a ++ b) none.0, behind_once t calls a b none.1 once)

bytes_last : (k : Kept) (next : Next) (t : OpeningState) (calls : List SignCall) (output : Record) (later : List Record) → calls ≡ [] → (SettledNext next → IsSettled t) → HandsBytes k next output later → HandsLast t calls output later
bytes_last k next t calls (records.Auth ticket (SignRequest blob hash bytes)) later none settles hands = (none, settles hands.1, hands.2)
bytes_last k next t calls (records.Auth ticket (SignRequestCert blob hash bytes)) later none settles hands = (none, settles hands.1, hands.2)
bytes_last k next t calls output later none settles hands = tt

all_once : (k : Kept) (next : Next) (t : OpeningState) (calls : List SignCall) (output : List Record) → (SettledNext next → IsSettled t) → (calls ≡ []) ⊎ AllByRecursion HandsNothing output → HandsAll k next output → HandsOnce t calls output
all_once k next t calls [] settles which hands = tt
all_once k next t calls (one ∷ output) settles (inl none) hands = (bytes_last k next t calls one output none settles hands.0, all_once k next t calls output settles (inl none) hands.1)
all_once k next t calls (one ∷ output) settles (inr none) hands = none_once t calls (one ∷ output) none

last_shown : (muted : Bool) (t : OpeningState) (calls : List SignCall) (output : Record) (later : List Record) → HandsLast t calls output later → HandsLast t calls output (shown muted later)
last_shown muted t calls (records.Auth ticket (SignRequest blob hash bytes)) later last = (last.0, last.1, shown_all HandsNothing muted later last.2)
last_shown muted t calls (records.Auth ticket (SignRequestCert blob hash bytes)) later last = (last.0, last.1, shown_all HandsNothing muted later last.2)
last_shown muted t calls output later last = tt

kept_once : (muted : Bool) (t : OpeningState) (calls : List SignCall) (output : Record) (later : List Record) → HandsLast t calls output later → HandsOnce t calls later → HandsOnce t calls (kept muted output ++ later)
kept_once false t calls output later last once = (last, once)
kept_once true t calls (records.Payload packet) later last once = once
kept_once true t calls output later last once = (last, once)

shown_once : (muted : Bool) (t : OpeningState) (calls : List SignCall) (output : List Record) → HandsOnce t calls output → HandsOnce t calls (shown muted output)
shown_once muted t calls [] once = tt
shown_once muted t calls (one ∷ output) once = kept_once muted t calls one (shown muted output) (last_shown muted t calls one output once.0) (shown_once muted t calls output once.1)

-- the gate's records, and then the row's
added_behind : (was is : Lent) (mid : Outgoing) (output : List Record) (gate : GateAdds was.outbox mid) → is.outbox.records ≡ mid.records ++ shown mid.muted output → is.outbox.records ≡ was.outbox.records ++ (gate.more ++ shown mid.muted output)
added_behind was is mid output gate added = added ∙ ap (λ (before : List Record). before ++ shown mid.muted output) gate.added ∙ append_assoc was.outbox.records gate.more (shown mid.muted output)

adds_both : (P : Record → Type 0) (was is : Lent) (mid : Outgoing) (output : List Record) → ((one : Record) → IsResolved one → P one) → GateAdds was.outbox mid → is.outbox.records ≡ mid.records ++ shown mid.muted output → AllByRecursion P output → AddsOnly P was is
adds_both P was is mid output each gate added holds = (
  gate.more ++ shown mid.muted output,
  added_behind was is mid output gate added,
  all_two P gate.more (shown mid.muted output) (resolved_all P each gate.more gate.answers) (shown_all P mid.muted output holds),
)

-- the same of bytes that are handed out: the gate's records hand out none
adds_once : (was is : Lent) (mid : Outgoing) (output : List Record) → GateAdds was.outbox mid → is.outbox.records ≡ mid.records ++ shown mid.muted output → HandsOnce is.opening (gained was is) output → AddsHandedOnce (gained was is) was is
adds_once was is mid output gate added once = (
  gate.more ++ shown mid.muted output,
  added_behind was is mid output gate added,
  behind_once is.opening (gained was is) gate.more (shown mid.muted output) (resolved_all HandsNothing nothing_handed gate.more gate.answers) (shown_once mid.muted is.opening (gained was is) output once),
)

adds_gate : (P : Record → Type 0) (was is : Lent) (mid : Outgoing) → ((one : Record) → IsResolved one → P one) → GateAdds was.outbox mid → is.outbox ≡ mid → AddsOnly P was is
adds_gate P was is mid each gate same = (gate.more, ap (λ (o : Outgoing). o.records) same ∙ gate.added, resolved_all P each gate.more gate.answers)

-- ---- the signer's calls

-- one call at most, for the stored request
abbrev OneCall : Kept → List SignCall → Type 0
OneCall k [] = Unit {0}
OneCall k (call ∷ []) = (call.by ≡ Session) × SignsStored k.method k call.key call.hash call.bytes
OneCall k (call ∷ other ∷ calls) = ⊥

asked_first : (k : Kept) (event : Event) (row : Asking Row) (calls : List SignCall) → KeepsAsked k event row → MakesFirst row calls → calls ≡ []
asked_first k event (done row) [] keeps first = refl
asked_first k event (done row) (call ∷ calls) keeps never = absurd never
asked_first k event (asks asked on) calls never first = absurd never

one_call : (k : Kept) (event : Event) (row : Asking Row) (calls : List SignCall) → KeepsAsking k event row → MakesFirst row calls → OneCall k calls
one_call k event (done row) [] keeps first = tt
one_call k event (done row) (call ∷ calls) keeps never = absurd never
one_call k event (asks asked on) [] keeps first = tt
one_call k event (asks asked on) (call ∷ calls) (by, signs, each) (is, first) =
    let none : calls ≡ [] = asked_first k event (on call.answer) calls (each call.answer) first in
    rw none (ap (λ (c : SignCall). c.by) is ∙ by, subst (λ (c : SignCall). SignsStored k.method k c.key c.hash c.bytes) (sym is) signs)

asked_settles : (k : Kept) (event : Event) (row : Asking Row) (calls : List SignCall) (to : Row) → KeepsAsked k event row → Makes row calls to → KeepsAsked k event (done to)
asked_settles k event (done row) [] to keeps is = subst (λ (r : Row). KeepsAsked k event (done r)) is keeps
asked_settles k event (done row) (call ∷ calls) to keeps never = absurd never
asked_settles k event (asks asked on) calls to never is = absurd never

-- a call settles the request, and then nothing is handed out
abbrev Settles : List SignCall → Row → Type 0
Settles [] row = Unit {0}
Settles (call ∷ calls) row = SettledNext row.next × AllByRecursion HandsNothing row.records

made_keeps : (k : Kept) (event : Event) (row : Asking Row) (calls : List SignCall) (to : Row) → KeepsAsking k event row → Makes row calls to → Keeps k event to × Settles calls to
made_keeps k event (done row) [] to keeps is = (subst (Keeps k event) is keeps, tt)
made_keeps k event (done row) (call ∷ calls) to keeps never = absurd never
made_keeps k event (asks asked on) [] to keeps never = absurd never
made_keeps k event (asks asked on) (call ∷ calls) to (by, signs, each) (is, makes) = let made = asked_settles k event (on call.answer) calls to (each call.answer) makes in (made.0, (made.1, made.2))

asks_once : (k : Kept) (t : OpeningState) (calls : List SignCall) → OneCall k calls → (IsSettled t ⊎ (calls ≡ [])) → AsksOnce k t calls
asks_once k t [] one settled = tt
asks_once k t (call ∷ []) one (inl settled) = (one.0, one.1, settled)
asks_once k t (call ∷ []) one (inr none) = absurd cc
asks_once k t (call ∷ other ∷ calls) never settled = absurd never

settled_by : (t : OpeningState) (calls : List SignCall) (row : Row) → Settles calls row → (SettledNext row.next → IsSettled t) → IsSettled t ⊎ (calls ≡ [])
settled_by t [] row settles is = inr refl
settled_by t (call ∷ calls) row settles is = inl (is settles.0)

nothing_by : (calls : List SignCall) (row : Row) → Settles calls row → (calls ≡ []) ⊎ AllByRecursion HandsNothing row.records
nothing_by [] row settles = inl refl
nothing_by (call ∷ calls) row settles = inr settles.1

-- ---- a step by its result

-- what the table says of the step
record KeptSo (k : Kept) (event : Event) (calls : List SignCall) (to : OpeningState) : Type 0 where
  session : KeepsSession k to
  request : KeepsRequest k event to
  asked : AsksOnce k to calls

over : (s : OpeningState) (event : Event) (calls : List SignCall) → OneCall (kept_of s) calls → KeptSo (kept_of s) event calls (shut s)
over s event calls one = record { session = λ later. (refl, later); request = inl (refl, inl refl); asked = asks_once (kept_of s) (shut s) calls one (inl (inr refl)) }

shut_stores : (event : Event) (t : OpeningState) → Stores event t → Stores event (shut t)
shut_stores (events.Authenticate ticket user method) t stores = stores
shut_stores event t never = absurd never

shut_keeps : (k : Kept) (event : Event) (t : OpeningState) → KeepsRequest k event t → KeepsRequest k event (shut t)
shut_keeps k event t (inl same) = inl same
shut_keeps k event t (inr stores) = inr (shut_stores event t stores)

kept_by : (s : OpeningState) (event : Event) (told : Told) (calls : List SignCall) (at : Span) (answer : Step Error) → at.before ≡ s → Steps (open_row s event told) calls at answer → KeptSo (kept_of s) event calls at.after
kept_by s event told calls at steps.Went same (row, (makes, adds), next) =
    let k : Kept = kept_of s in
    let made = made_keeps k event (open_row s event told) calls row (open_keeps s event told) makes in
    let state : KeepsState k event at.after = subst (KeepsNext k event) next made.0.1 in
    record {
      session = state.0;
      request = state.1;
      asked = asks_once k at.after calls (one_call k event (open_row s event told) calls (open_keeps s event told) (all_first (open_row s event told) calls row makes))
          (settled_by at.after calls row made.1 (λ settled. inl (subst SettledNext next settled)));
    }
kept_by s event told calls at steps.Opened same (row, to, (makes, adds), next, after) =
    let k : Kept = kept_of s in
    let made = made_keeps k event (open_row s event told) calls row (open_keeps s event told) makes in
    let state : KeepsState k event to = subst (KeepsNext k event) next made.0.1 in
    rw after (record {
      session = state.0;
      request = shut_keeps k event to state.1;
      asked = asks_once k (shut to) calls (one_call k event (open_row s event told) calls (open_keeps s event told) (all_first (open_row s event told) calls row makes)) (inl (inr refl));
    })
kept_by s event told calls at (steps.Ended e) same (row, (makes, adds), next, after) =
    rw (after, same) (over s event calls (one_call (kept_of s) event (open_row s event told) calls (open_keeps s event told) (all_first (open_row s event told) calls row makes)))
kept_by s event told calls at (steps.Refused e) same (after, inl (memory, adds, first)) =
    rw (after, same) (over s event calls (one_call (kept_of s) event (open_row s event told) calls (open_keeps s event told) first))
kept_by s event told calls at (steps.Refused e) same (after, inr (row, (makes, adds), next)) =
    rw (after, same) (over s event calls (one_call (kept_of s) event (open_row s event told) calls (open_keeps s event told) (all_first (open_row s event told) calls row makes)))
kept_by s event told calls at steps.Closed same never = absurd never

-- the records of the row, of which this holds, and no others
row_adds : (Q : Record → Type 0) (row : Asking Row) (calls : List SignCall) (at : Span) (answer : Step Error) → ((to : Row) → Makes row calls to → AllByRecursion Q to.records) → Steps row calls at answer →
    (output : List Record) × (at.new.records ≡ at.old.records ++ shown at.old.muted output) × AllByRecursion Q output
row_adds Q row calls at steps.Went each (to, (makes, adds), next) = (to.records, adds.0, each to makes)
row_adds Q row calls at steps.Opened each (to, s, (makes, adds), next, after) = (to.records, adds.0, each to makes)
row_adds Q row calls at (steps.Ended e) each (to, (makes, adds), next, after) = (to.records, adds.0, each to makes)
row_adds Q row calls at (steps.Refused e) each (after, inl (memory, adds, first)) = ([], adds.0, tt)
row_adds Q row calls at (steps.Refused e) each (after, inr (to, (makes, adds), next)) = (to.records, adds.0, each to makes)
row_adds Q row calls at steps.Closed each never = absurd never

-- the records of the row hand bytes out once at most
row_once : (k : Kept) (event : Event) (row : Asking Row) (calls : List SignCall) (at : Span) (answer : Step Error) → KeepsAsking k event row → Steps row calls at answer →
    (output : List Record) × (at.new.records ≡ at.old.records ++ shown at.old.muted output) × HandsOnce at.after calls output
row_once k event row calls at steps.Went keeps (to, (makes, adds), next) =
    let made = made_keeps k event row calls to keeps makes in
    (to.records, adds.0, all_once k to.next at.after calls to.records (λ settled. inl (subst SettledNext next settled)) (nothing_by calls to made.1) made.0.0)
row_once k event row calls at steps.Opened keeps (to, s, (makes, adds), next, after) =
    let made = made_keeps k event row calls to keeps makes in
    (to.records, adds.0, all_once k to.next at.after calls to.records (λ settled. rw after (inr refl)) (nothing_by calls to made.1) made.0.0)
row_once k event row calls at (steps.Ended e) keeps (to, (makes, adds), next, after) =
    let made = made_keeps k event row calls to keeps makes in
    (to.records, adds.0, all_once k to.next at.after calls to.records (λ settled. rw after (inr refl)) (nothing_by calls to made.1) made.0.0)
row_once k event row calls at (steps.Refused e) keeps (after, inl (memory, adds, first)) = ([], adds.0, tt)
row_once k event row calls at (steps.Refused e) keeps (after, inr (to, (makes, adds), next)) =
    let made = made_keeps k event row calls to keeps makes in
    (to.records, adds.0, all_once k to.next at.after calls to.records (λ settled. rw after (inr refl)) (nothing_by calls to made.1) made.0.0)
row_once k event row calls at steps.Closed keeps never = absurd never

-- ---- the first exchange

-- if the gate let the row of the first exchange continue, it accepted the host key
judged_true : {E : Type 0} (gate : GateAnswers E) (x : Option ExchangeResult) (old mid : Outgoing) (told : Told) (wanted : Asks) → IsKeyAtMost wanted → Answered gate x old mid (Ok told) wanted → told ≡ telling.Went →
    (key : PublicKeyOrCertificate) × (wanted ≡ asking.HostKey key) × gate.judges key (Ok true)
judged_true gate x old mid told asking.Nothing most (is, same) went = let clash : telling.Went ≡ telling.NotAsked = sym went ∙ cc in absurd cc
judged_true gate x old mid told (asking.HostKey key) most (Ok true, judges, judged) went = (key, refl, judges)
judged_true gate x old mid told (asking.HostKey key) most (Ok false, judges, (is, same)) went = let clash : telling.Went ≡ telling.No = sym went ∙ cc in absurd cc
judged_true gate x old mid told (asking.HostKey key) most (Err e, judges, (is, same)) went = absurd cc
judged_true gate x old mid told wanted never answered went = absurd never

accepts : {E : Type 0} (gate : GateAnswers E) (s t : OpeningState) (event : Event) (old mid : Outgoing) (told : Told) → IsFirst s → Answered gate (exchange_in event) old mid (Ok told) (asked_of s event) → TakesFirst event told t → AcceptsFirst gate event t
accepts gate s t event old mid told first answered (x, is, went, id, kept_so) =
    let key = judged_true gate (exchange_in event) old mid told (asked_of s event) (first_at_most s event first.exchanging) answered went in
    let wanted : AsksFor s event key.0 = asks_for s event key.0 key.1 in
    let same : events.ExchangeDone wanted.exchange ≡ events.ExchangeDone x = sym wanted.is ∙ is in
    let one : wanted.exchange ≡ x = cc in
    record { exchange = wanted.exchange; is_done = wanted.is; key = key.0; is_there = wanted.has; accepted = key.2; session_id = id ∙ ap (λ (y : ExchangeResult). y.session_hash) (sym one); kept = kept_so ∙ ap (λ (y : ExchangeResult). y.key) (sym one) }

accepts_shut : {E : Type 0} (gate : GateAnswers E) (event : Event) (t : OpeningState) → AcceptsFirst gate event t → AcceptsFirst gate event (shut t)
accepts_shut gate event t a = record { exchange = a.exchange; is_done = a.is_done; key = a.key; is_there = a.is_there; accepted = a.accepted; session_id = a.session_id; kept = a.kept }

behind_first : {E : Type 0} (gate : GateAnswers E) (s : OpeningState) (event : Event) (old mid : Outgoing) (told : Told) (calls : List SignCall) (at : Span) (answer : Step Error) (result : Step E) →
    IsFirst s → Answered gate (exchange_in event) old mid (Ok told) (asked_of s event) → at.before ≡ s → result ≡ map_step gate.told_as answer → Steps (open_row s event told) calls at answer → GoesOnFirst at.after result ⊎ AcceptsFirst gate event at.after
behind_first gate s event old mid told calls at steps.Went result first answered same is (row, (makes, adds), next) =
    by (subst (FirstOrTaken event told) next (always_makes (FirstRow event told) (open_row s event told) calls row (first_row s event told first) makes).1)
  where
    by : FirstOrTaken event told (stays at.after) → GoesOnFirst at.after result ⊎ AcceptsFirst gate event at.after
    by (inl goes_on) = rw is (inl goes_on)
    by (inr takes) = inr (accepts gate s at.after event old mid told first answered takes)
behind_first gate s event old mid told calls at steps.Opened result first answered same is (row, to, (makes, adds), next, after) =
    let takes : TakesFirst event told to = subst (FirstOrTaken event told) next (always_makes (FirstRow event told) (open_row s event told) calls row (first_row s event told first) makes).1 in
    inr (rw after (accepts_shut gate event to (accepts gate s to event old mid told first answered takes)))
behind_first gate s event old mid told calls at (steps.Ended e) result first answered same is (row, (makes, adds), next, after) = rw is (inl (rw (after, same) first.exchanging))
behind_first gate s event old mid told calls at (steps.Refused e) result first answered same is (after, why) = rw is (inl (rw (after, same) first.exchanging))
behind_first gate s event old mid told calls at steps.Closed result first answered same is never = absurd never

-- ---- later exchanges

-- the session continues behind a later exchange only with the host key that it has
key_next : (s : OpeningState) (event : Event) (told : Told) (calls : List SignCall) (row : Row) (t : OpeningState) → s.phase ≢ phases.Exchanging → Makes (open_row s event told) calls row → (row.next ≡ stays t) ⊎ (row.next ≡ opens t) → HasKeptKey s event
key_next s (events.ExchangeDone x) told calls row t later makes next = by next
  where
    has : HasKeyRow s x row
    has = always_makes (HasKeyRow s x) (open_row s (events.ExchangeDone x) told) calls row (later_row s x told later) makes

    by : (row.next ≡ stays t) ⊎ (row.next ≡ opens t) → IsKeptKey s x.key
    by (inl is) = subst (HasKeyNext s x) is has
    by (inr is) = subst (HasKeyNext s x) is has
key_next s event told calls row t later makes next = tt

key_of : {E : Type 0} (gate : GateAnswers E) (s : OpeningState) (event : Event) (told : Told) (calls : List SignCall) (at : Span) (answer : Step Error) (result : Step E) → result ≡ map_step gate.told_as answer → Steps (open_row s event told) calls at answer → KeepsKey event s result
key_of gate s event told calls at steps.Went result is (row, (makes, adds), next) = λ later goes. key_next s event told calls row at.after later makes (inl next)
key_of gate s event told calls at steps.Opened result is (row, to, (makes, adds), next, after) = λ later goes. key_next s event told calls row to later makes (inr next)
key_of gate s event told calls at (steps.Ended e) result is steps_so = λ later goes. absurd (subst Continues is goes)
key_of gate s event told calls at (steps.Refused e) result is steps_so = λ later goes. absurd (subst Continues is goes)
key_of gate s event told calls at steps.Closed result is never = absurd never

-- ---- what is answered

-- a gate that isn't asked adds nothing
quiet_unasked : {E : Type 0} (gate : GateAnswers E) (event : Event) (old mid : Outgoing) (told : Result Told E) (wanted : Asks) (answered : Answered gate (exchange_in event) old mid told wanted) → wanted ≡ asking.Nothing → (gate_adds gate event old mid told wanted answered).more ≡ []
unfolding gate_adds nothing_added
quiet_unasked gate event old mid told asking.Nothing (is, same) none = refl
quiet_unasked gate event old mid told (asking.HostKey key) answered none = absurd cc
quiet_unasked gate event old mid told asking.Exchange answered none = absurd cc
quiet_unasked gate event old mid told (asking.Banner text) answered none = absurd cc

-- the gate adds nothing, or it is told of an exchange or a banner
abbrev pub Quiet : {old mid : Outgoing} → Event → GateAdds old mid → Type 0
Quiet event adds = (adds.more ≡ []) ⊎ (may_ask event ≡ true)

quiet_by : {E : Type 0} (gate : GateAnswers E) (s : OpeningState) (event : Event) (old mid : Outgoing) (told : Result Told E) (answered : Answered gate (exchange_in event) old mid told (asked_of s event)) → Quiet event (gate_adds gate event old mid told (asked_of s event) answered)
quiet_by gate s event old mid told answered = by (may_ask event) refl
  where
    by : (may : Bool) → may_ask event ≡ may → Quiet event (gate_adds gate event old mid told (asked_of s event) answered)
    by true is = inr is
    by false is = inl (quiet_unasked gate event old mid told (asked_of s event) answered (unasked s event is))

no_quiet : (event : Event) (old : Outgoing) → Quiet event (nothing_added old old refl)
unfolding nothing_added
no_quiet event old = inl refl

-- a session that a row opens is opened by what may open it
opens_by : {E : Type 0} (told_as : Error → E) (s : OpeningState) (event : Event) (told : Told) (calls : List SignCall) (at : Span) (answer : Step Error) (result : Step E) → result ≡ map_step told_as answer → Steps (open_row s event told) calls at answer → OpensBy s event result
opens_by told_as s event told calls at steps.Went result same steps_so = rw same tt
opens_by told_as s event told calls at steps.Opened result same (row, to, (makes, adds), next, after) =
    rw same (subst (NextOpens s event) next (always_makes (RowAnswers s event) (open_row s event told) calls row (row_answers s event told) makes).1)
opens_by told_as s event told calls at (steps.Ended e) result same steps_so = rw same tt
opens_by told_as s event told calls at (steps.Refused e) result same steps_so = rw same tt
opens_by told_as s event told calls at steps.Closed result same never = absurd never

-- ---- a step

refused_keeps : {E : Type 0} (gate : GateAnswers E) (event : Event) (e : E) (was is : Lent) (mid : Outgoing) (result : Step E) (adds : GateAdds was.outbox mid) → Quiet event adds → GateRefused e (record was { outbox = mid }) is result → KeepsTo gate event was is result
refused_keeps gate event e was is mid result adds quiet (refused, shut_so, outbox, calls) = record {
  first = λ first. record {
    unwritten = adds_gate IsNoPacket was is mid no_packet adds outbox;
    behind = inl (rw (refused, shut_so) first.exchanging);
  };
  session = rw shut_so (λ later. (refl, later));
  key = rw refused (λ later never. absurd never);
  asked = rw none tt;
  handed = adds_gate (HandsStored (kept_of was.opening)) was is mid (none_handed (kept_of was.opening)) adds outbox;
  once = let only = adds_gate HandsNothing was is mid nothing_handed adds outbox in (only.0, only.1, none_once is.opening (gained was is) only.0 only.2);
  request = rw shut_so (inl (refl, inl refl));
  answers = record {
    by_gate = adds.more;
    own = [];
    added = ap (λ (o : Outgoing). o.records) outbox ∙ adds.added ∙ ap (λ (more : List Record). was.outbox.records ++ more) (sym (append-nil adds.more));
    resolved = adds.answers;
    told = quiet;
    may = tt;
    opens = rw refused tt;
  };
}
  where
    none : gained was is ≡ []
    none = ap (since was.calls) calls ∙ drop-length was.calls

told_keeps : {E : Type 0} (gate : GateAnswers E) (event : Event) (was is : Lent) (mid : Outgoing) (told : Told) (answer : Step Error) (result : Step E) → Answered gate (exchange_in event) was.outbox mid (Ok told) (asked_of was.opening event) →
    result ≡ map_step gate.told_as answer → Steps (open_row was.opening event told) (gained was is) (span_of (record was { outbox = mid }) is) answer → KeepsTo gate event was is result
told_keeps gate event was is mid told answer result answered same steps_so =
    let s : OpeningState = was.opening in
    let at : Span = span_of (record was { outbox = mid }) is in
    let adds = gate_adds gate event was.outbox mid (Ok told) (asked_of s event) answered in
    let kept_so = kept_by s event told (gained was is) at answer refl steps_so in
    let handed = row_adds (HandsStored (kept_of s)) (open_row s event told) (gained was is) at answer
    (λ row makes. stored_all (kept_of s) row.next row.records (made_keeps (kept_of s) event (open_row s event told) (gained was is) row (open_keeps s event told) makes).0.0) steps_so in
    let once = row_once (kept_of s) event (open_row s event told) (gained was is) at answer (open_keeps s event told) steps_so in
    record {
      first = λ first.
          let unwritten = row_adds IsNoPacket (open_row s event told) (gained was is) at answer
          (λ row makes. (always_makes (FirstRow event told) (open_row s event told) (gained was is) row (first_row s event told first) makes).0) steps_so in
          record {
            unwritten = adds_both IsNoPacket was is mid unwritten.0 no_packet adds unwritten.1 unwritten.2;
            behind = behind_first gate s event was.outbox mid told (gained was is) at answer result first answered refl same steps_so;
          };
      session = kept_so.session;
      key = key_of gate s event told (gained was is) at answer result same steps_so;
      asked = kept_so.asked;
      handed = adds_both (HandsStored (kept_of s)) was is mid handed.0 (none_handed (kept_of s)) adds handed.1 handed.2;
      once = adds_once was is mid once.0 adds once.1 once.2;
      request = kept_so.request;
      answers =
          let own = row_adds (MayAdd s event) (open_row s event told) (gained was is) at answer
          (λ row makes. (always_makes (RowAnswers s event) (open_row s event told) (gained was is) row (row_answers s event told) makes).0) steps_so in
          record {
            by_gate = adds.more;
            own = shown mid.muted own.0;
            added = added_behind was is mid own.0 adds own.1;
            resolved = adds.answers;
            told = quiet_by gate s event was.outbox mid (Ok told) answered;
            may = shown_all (MayAdd s event) mid.muted own.0 own.2;
            opens = opens_by gate.told_as s event told (gained was is) at answer result same steps_so;
          };
    }

by_told : {E : Type 0} (gate : GateAnswers E) (event : Event) (was is : Lent) (result : Step E) → StepsBy gate event was is result → KeepsTo gate event was is result
by_told gate event was is result (inl refused) = refused_keeps gate event (gate.told_as NoMemory) was is was.outbox result (nothing_added was.outbox was.outbox refl) (no_quiet event was.outbox) refused
by_told gate event was is result (inr (Ok told, mid, answered, (answer, same, steps_so))) = told_keeps gate event was is mid told answer result answered same steps_so
by_told gate event was is result (inr (Err e, mid, answered, refused)) = refused_keeps gate event e was is mid result (gate_adds gate event was.outbox mid (Err e) (asked_of was.opening event) answered) (quiet_by gate was.opening event was.outbox mid (Err e) answered) refused

closed_keeps : {E : Type 0} (gate : GateAnswers E) (event : Event) (was is : Lent) (result : Step E) → was.opening.closed ≡ true → StaysClosed was is result → KeepsTo gate event was is result
closed_keeps gate event was is result shut_before closed =
    let so = closed shut_before in
    record {
      first = λ first. let clash : true ≡ false = sym shut_before ∙ first.fresh in absurd cc;
      session = rw so.1 (λ later. (refl, later));
      key = rw so.0 (λ later never. absurd never);
      asked = rw (ap (since was.calls) so.3 ∙ drop-length was.calls) tt;
      handed = ([], ap (λ (o : Outgoing). o.records) so.2 ∙ sym (append-nil was.outbox.records), tt);
      once = ([], ap (λ (o : Outgoing). o.records) so.2 ∙ sym (append-nil was.outbox.records), tt);
      request = rw so.1 (inl (refl, inl refl));
      answers = record {
        by_gate = [];
        own = [];
        added = ap (λ (o : Outgoing). o.records) so.2 ∙ sym (append-nil was.outbox.records);
        resolved = tt;
        told = inl refl;
        may = tt;
        opens = rw so.0 tt;
      };
    }

by_closed : {E : Type 0} (gate : GateAnswers E) (event : Event) (was is : Lent) (result : Step E) (closed : Bool) → was.opening.closed ≡ closed → StaysClosed was is result → (was.opening.closed ≡ false → StepsBy gate event was is result) → KeepsTo gate event was is result
by_closed gate event was is result true is_so closed row = closed_keeps gate event was is result is_so closed
by_closed gate event was is result false is_so closed row = by_told gate event was is result (row is_so)

-- a step of the table satisfies it
pub step_keeps : {E : Type 0} (gate : GateAnswers E) (event : Event) (was is : Lent) (result : Step E) → StaysClosed was is result → (was.opening.closed ≡ false → StepsBy gate event was is result) → KeepsTo gate event was is result
step_keeps gate event was is result closed row = by_closed gate event was is result was.opening.closed refl closed row

-- ---- what the gate was notified of

-- a record that isn't for the transport is shown
shown_first : (muted : Bool) (wanted : Asks) (x : Option ExchangeResult) (one : Record) (more : List Record) → reported wanted x ≡ Some one → shown muted (one ∷ more) ≡ one ∷ shown muted more
shown_first false wanted x one more is = refl
shown_first true asking.Nothing x one more is = absurd cc
shown_first true (asking.Banner text) x one more is = let same : records.AuthBanner text ≡ one = cc in rw (sym same) refl
shown_first true (asking.HostKey key) (Some x) one more is = let same : records.KexDone x.names.kex ≡ one = cc in rw (sym same) refl
shown_first true asking.Exchange (Some x) one more is = let same : records.KexDone x.names.kex ≡ one = cc in rw (sym same) refl
shown_first true wanted None one more is = absurd cc

reported_by : (event : Event) (was is : Lent) (mid : Outgoing) (output : List Record) (one : Option Record) → reported (asked_of was.opening event) (exchange_in event) ≡ one → GateAdds was.outbox mid →
    is.outbox.records ≡ mid.records ++ shown mid.muted output → Reports one output → IsReported one was is
reported_by event was is mid output None which adds added first = tt
reported_by event was is mid output (Some one) which adds added (more, is_so) = (
  adds.more,
  shown mid.muted more,
  added_behind was is mid output adds added ∙ ap (λ (rest : List Record). was.outbox.records ++ (adds.more ++ rest)) (ap (shown mid.muted) is_so ∙ shown_first mid.muted (asked_of was.opening event) (exchange_in event) one more which),
)

told_reports : {E : Type 0} (gate : GateAnswers E) (event : Event) (was is : Lent) (mid : Outgoing) (told : Told) (answer : Step Error) (result : Step E) → was.opening.closed ≡ false → GateAdds was.outbox mid → result ≡ map_step gate.told_as answer →
    Steps (open_row was.opening event told) (gained was is) (span_of (record was { outbox = mid }) is) answer → Continues result → IsReported (reported (asked_of was.opening event) (exchange_in event)) was is
told_reports gate event was is mid told steps.Went result fresh adds same (row, (makes, added), next) goes =
    let one : Option Record = reported (asked_of was.opening event) (exchange_in event) in
    let says : ReportsRow one row = always_makes (ReportsRow one) (open_row was.opening event told) (gained was is) row (row_reports was.opening event told fresh) makes in
    reported_by event was is mid row.records one refl adds added.0 (subst (ReportsNext one row.records) next says)
told_reports gate event was is mid told steps.Opened result fresh adds same (row, to, (makes, added), next, after) goes =
    let one : Option Record = reported (asked_of was.opening event) (exchange_in event) in
    let says : ReportsRow one row = always_makes (ReportsRow one) (open_row was.opening event told) (gained was is) row (row_reports was.opening event told fresh) makes in
    reported_by event was is mid row.records one refl adds added.0 (subst (ReportsNext one row.records) next says)
told_reports gate event was is mid told (steps.Ended e) result fresh adds same steps_so goes = absurd (subst Continues same goes)
told_reports gate event was is mid told (steps.Refused e) result fresh adds same steps_so goes = absurd (subst Continues same goes)
told_reports gate event was is mid told steps.Closed result fresh adds same never goes = absurd never

row_told : {E : Type 0} (gate : GateAnswers E) (event : Event) (was is : Lent) (result : Step E) → was.opening.closed ≡ false → StepsBy gate event was is result → Continues result → IsReported (reported (asked_of was.opening event) (exchange_in event)) was is
row_told gate event was is result fresh (inl refused) goes = absurd (subst Continues refused.0 goes)
row_told gate event was is result fresh (inr (Ok told, mid, answered, (answer, same, steps_so))) goes =
    told_reports gate event was is mid told answer result fresh (gate_adds gate event was.outbox mid (Ok told) (asked_of was.opening event) answered) same steps_so goes
row_told gate event was is result fresh (inr (Err e, mid, answered, refused)) goes = absurd (subst Continues refused.0 goes)

told_by : {E : Type 0} (gate : GateAnswers E) (event : Event) (was is : Lent) (result : Step E) (closed : Bool) → was.opening.closed ≡ closed → StaysClosed was is result → (was.opening.closed ≡ false → StepsBy gate event was is result) → Continues result → IsReported (reported (asked_of was.opening event) (exchange_in event)) was is
told_by gate event was is result true is_so stays_so row goes = absurd (subst Continues (stays_so is_so).0 goes)
told_by gate event was is result false is_so stays_so row goes = row_told gate event was is result is_so (row is_so) goes

-- a step of the table reports it
pub step_reports : {E : Type 0} (gate : GateAnswers E) (event : Event) (was is : Lent) (result : Step E) → StaysClosed was is result → (was.opening.closed ≡ false → StepsBy gate event was is result) → Continues result → IsReported (reported (asked_of was.opening event) (exchange_in event)) was is
step_reports gate event was is result stays_so row = told_by gate event was is result was.opening.closed refl stays_so row
