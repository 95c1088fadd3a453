-- A step of the opening leaves an outbox as muted as it was.
use Rattle.std.proofs.Common.{◌≡◌, ◌⊎◌, ℕ, Bool, true, false, not, List, Option, Some, None, Result, Ok, Err, refl, ap, sym, subst, ◌∙◌, inl, inr}
use Rattle.sshc_wire.specs.declared.record.Record.{Record}
use Rattle.sshc_wire.specs.Outgoing.{Outgoing}
use Rattle.sshc_key.specs.Asking.{Asking}
use Rattle.sshc_key.specs.Signers.{SignCall}
use Rattle.sshc_auth_event.specs.declared.event.Event.{Event}
use Rattle.sshc_transport.specs.declared.exchange.ExchangeResult.{ExchangeResult}
use Rattle.sshc_auth.specs.declared.error.Error.{Error}
use Rattle.sshc_auth.specs.declared.step.Asks.{Asks}
use Rattle.sshc_auth.specs.declared.step.Asks.TheVariants as asking
use Rattle.sshc_auth.specs.declared.step.Told.{Told}
use Rattle.sshc_auth.specs.declared.step.Step.{Step}
use Rattle.sshc_auth.specs.declared.step.Step.TheVariants as steps
use Rattle.sshc_auth.specs.declared.error.Error.TheVariants.{NoMemory}
use Rattle.sshc_auth.specs.OpeningTable.{asked_of, open_row}
use Rattle.sshc_auth.specs.Promises.{Stepped}
use Rattle.sshc_auth.specs.Row.{Did, Row, Span, Steps}
use Rattle.sshc_auth.specs.OpeningState.{OpeningState}
use Rattle.sshc_auth.specs.Stepping.{Answered, GateAnswers, GateRefused, Judged, Lent, LentGate, StepsBy, StepsTold, Tells, exchange_in, gained, lent, span_of, told_of, with_gate}
use Rattle.sshc_client_table.specs.SessionRow.{Callback}
use Rattle.sshc_client_table.specs.SessionState.{SessionState, runs}
use Rattle.sshc_client_state.specs.OpeningStep.{StepsLent, goes_on, lent_session, life_behind, outbox_of}

same_muted : (new old : Outgoing) → new ≡ old → new.muted ≡ old.muted
same_muted new old same = ap (λ (o : Outgoing). o.muted) same

tells_keeps : {E : Type 0} (tells : Result (Unit {0}) E → List Record → Type 0) (old new : Outgoing) (result : Result Told E) →
    Tells tells old new result → new.muted ≡ old.muted
tells_keeps tells old new (Ok told) (went, (u, (more, holds, resolved, records, muted))) = muted
tells_keeps tells old new (Err e) (more, holds, resolved, records, muted) = muted

judged_keeps : {E : Type 0} (tells : Result (Unit {0}) E → List Record → Type 0) (old new : Outgoing) (result : Result Told E) (verdict : Result Bool E) →
    Judged tells old new result verdict → new.muted ≡ old.muted
judged_keeps tells old new result (Ok true) j = tells_keeps tells old new result j
judged_keeps tells old new result (Ok false) (output, same) = same_muted new old same
judged_keeps tells old new result (Err e) (output, same) = same_muted new old same

answered_keeps : {E : Type 0} (gate : GateAnswers E) (x : Option ExchangeResult) (old new : Outgoing) (result : Result Told E) (asks : Asks) →
    Answered gate x old new result asks → new.muted ≡ old.muted
answered_keeps gate x old new result asking.Nothing (output, same) = same_muted new old same
answered_keeps gate x old new result (asking.HostKey key) (verdict, judges, judged) = judged_keeps (told_of gate x) old new result verdict judged
answered_keeps gate x old new result asking.Exchange a = tells_keeps (told_of gate x) old new result a
answered_keeps gate x old new result (asking.Banner text) a = tells_keeps (gate.tells_banner text) old new result a

did_keeps : (turn : Asking Row) (row : Row) (gained : List SignCall) (s : Span) → Did turn row gained s → s.new.muted ≡ s.old.muted
did_keeps turn row gained s (makes, (records, muted)) = muted

steps_keep : (turn : Asking Row) (gained : List SignCall) (s : Span) (answer : Step Error) → Steps turn gained s answer → s.new.muted ≡ s.old.muted
steps_keep turn gained s steps.Went (row, did, next) = did_keeps turn row gained s did
steps_keep turn gained s steps.Opened (row, to, did, next, left) = did_keeps turn row gained s did
steps_keep turn gained s (steps.Ended e) (row, did, next, left) = did_keeps turn row gained s did
steps_keep turn gained s (steps.Refused e) (left, inl (ran_out, (records, muted), makes)) = muted
steps_keep turn gained s (steps.Refused e) (left, inr (row, did, next)) = did_keeps turn row gained s did
steps_keep turn gained s steps.Closed f = absurd f

refused_keeps : {E : Type 0} (e : E) (was is : Lent) (result : Step E) → GateRefused e was is result → is.outbox.muted ≡ was.outbox.muted
refused_keeps e was is result (same, left, out, calls) = same_muted is.outbox was.outbox out

told_keeps : {E : Type 0} (gate : GateAnswers E) (event : Event) (was is : Lent) (result : Step E) (told : Result Told E) →
    StepsTold gate event was is result told → is.outbox.muted ≡ was.outbox.muted
told_keeps gate event was is result (Ok told) (answer, same, does) =
    steps_keep (open_row was.opening event told) (gained was is) (span_of was is) answer does
told_keeps gate event was is result (Err e) f = refused_keeps e was is result f

by_keeps : {E : Type 0} (gate : GateAnswers E) (event : Event) (was is : Lent) (result : Step E) →
    StepsBy gate event was is result → is.outbox.muted ≡ was.outbox.muted
by_keeps gate event was is result (inl f) = refused_keeps (gate.told_as NoMemory) was is result f
by_keeps gate event was is result (inr (told, mid, answered, does)) =
    told_keeps gate event (record was { outbox = mid }) is result told does
    ∙ answered_keeps gate (exchange_in event) was.outbox mid told (asked_of was.opening event) answered

closed_keeps : (closed : Bool) (now old : Bool) → (closed ≡ true → now ≡ old) → (closed ≡ false → now ≡ old) → now ≡ old
closed_keeps true now old yes_closed not_closed = yes_closed refl
closed_keeps false now old yes_closed not_closed = not_closed refl

-- a step leaves the outbox as muted as it was
pub keeps_muted : {E : Type 0} (gate : GateAnswers E) (event : Event) (was is : LentGate) (result : Step E) →
    Stepped gate event was is result → is.rest.outbox.muted ≡ was.rest.outbox.muted
keeps_muted gate event was is result stepped =
    closed_keeps was.rest.opening.closed is.rest.outbox.muted was.rest.outbox.muted
    (λ closed. same_muted is.rest.outbox was.rest.outbox (stepped.closed closed).2)
    (λ fresh. by_keeps gate event was.rest is.rest result (stepped.row fresh))

-- ---- a step of the opening is a step of the session

abbrev outbox : List Record → Bool → Outgoing
outbox records muted = record { records = records; muted = muted }

same_outbox : (s : SessionState) (old : Outgoing) → old.records ≡ s.records → old.muted ≡ not (runs s.life) → old ≡ outbox_of s
same_outbox s old records_are muted_is =
    ap (λ (records : List Record). outbox records old.muted) records_are
    ∙ ap (λ (muted : Bool). outbox s.records muted) muted_is

pub steps_lent : {E : Type 0} (gate : GateAnswers E) (event : Event) (s t : SessionState) (before after : OpeningState) (old new : Outgoing) (calls calls2 : List SignCall) (refusals refusals2 gate_refusals gate_refusals2 : ℕ) (setting setting2 : List (List ℕ)) (result : Step E) {heard heard2 : List Callback} →
    Stepped gate event (with_gate (lent before old calls refusals) gate_refusals setting) (with_gate (lent after new calls2 refusals2) gate_refusals2 setting2) result →
    s.opening ≡ before → old.records ≡ s.records → old.muted ≡ not (runs s.life) →
    t ≡ record s { opening = after; records = new.records; life = life_behind (goes_on result) s.life } →
    StepsLent gate event (lent_session s calls refusals gate_refusals setting heard) (lent_session t calls2 refusals2 gate_refusals2 setting2 heard2) result
steps_lent gate event s t before after old new calls calls2 refusals refusals2 gate_refusals gate_refusals2 setting setting2 result stepped opening_is records_are muted_is rest_is = record {
  opening = after;
  output = new;
  stepped =
      subst (λ (o : OpeningState). Stepped gate event (with_gate (lent o (outbox_of s) calls refusals) gate_refusals setting) (with_gate (lent after new calls2 refusals2) gate_refusals2 setting2) result)
      (sym opening_is)
      (subst (λ (out : Outgoing). Stepped gate event (with_gate (lent before out calls refusals) gate_refusals setting) (with_gate (lent after new calls2 refusals2) gate_refusals2 setting2) result)
      (same_outbox s old records_are muted_is) stepped);
  rest = rest_is;
}
