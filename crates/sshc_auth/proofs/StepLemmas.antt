-- A call that follows its row, and a step with a gate: why it refuses or ends, what it asked the gate, and what the
-- gate returned.
use Rattle.std.proofs.Common.{◌≡◌, ◌≢◌, inl, inr, ℕ, Bool, true, false, List, ◌++◌, Option, Some, None, Result, Ok, Err, refl, ap, sym, subst, ◌∙◌, append-nil, arith}
use Rattle.std.proofs.Math.Seq.{drop-length}
use Rattle.sshc_transport.specs.declared.exchange.ExchangeNames.{ExchangeNames}
use Rattle.sshc_auth.specs.declared.ended.Ended.{Ended}
use Rattle.sshc_auth.specs.declared.step.Flow.TheVariants as flows
use Rattle.sshc_auth.specs.declared.error.Error.TheVariants as errors
use Rattle.sshc_auth.specs.declared.step.Asks.TheVariants as asking
use Rattle.sshc_auth.specs.declared.step.Step.TheVariants as steps
use Rattle.sshc_auth.specs.declared.step.Told.TheVariants as telling
use Rattle.sshc_auth.specs.Causes.{HasCause, IsEndCause, SaysNoTo, GateSaysNo, HasGateCause}
use Rattle.sshc_auth.specs.OpeningTable.{FitsAsked}
use Rattle.sshc_auth.specs.Promises.{Applied, ByTable}
use Rattle.sshc_auth.specs.Stepping.{LentGate, SignerGrows, gate_answers, lent, with_gate}
use Rattle.sshc_auth.specs.AskedLaws.{first_asks}
use Rattle.sshc_auth.specs.CauseLaws.{SaysAlso, cause_also, open_cause}
use Rattle.sshc_auth.specs.RowNames.{AllCaused, Answered, asked_of, Asking, Asks, asks, Caused, done, Error, Event, exchange_in, ExchangeResult, FollowsAsking, GateAnswers, host_key, IsCause, Judged, key_asked, map_step, Next, open_row, OpeningState, Outgoing, PublicKeyOrCertificate, Record, Row, SignCall, SignerAt, Span, Step, Tells, Told, told_of, WasToldNo, Why, why}

-- ---- a call that follows its row

caused_by : (P : Why) → P.refusal errors.NoMemory → (asking : Asking Row) (was is : SignerAt) (at : Span) (e : Error) → AllCaused P asking → FollowsAsking asking was is at (Err e) → P.refusal e
caused_by P free (done row) was is at e cause (same, (left, inl memory)) = subst P.refusal (sym memory.0) free
caused_by P free (done row) was is at e cause (same, (left, inr (adds, next))) = subst (λ (n : Next). Caused P n) next cause
caused_by P free (asks asked on) was is at e cause (inl (calls, later, memory, left, adds)) = let same : e ≡ errors.NoMemory = cc in subst P.refusal (sym same) free
caused_by P free (asks asked on) was is at e cause (inr (answer, mid, keeps, rest)) = caused_by P free (on answer) mid is at e (cause answer) rest

-- it is refused for a cause
pub follows_cause : (s : OpeningState) (event : Event) (told : Told) (was is : SignerAt) (at : Span) (e : Error) → FollowsAsking (open_row s event told) was is at (Err e) → IsCause (WasToldNo told) s event e
follows_cause s event told was is at e follows = caused_by (why (WasToldNo told) s event) tt (open_row s event told) was is at e (open_cause s event told) follows

ended_by : (P : Why) (asking : Asking Row) (was is : SignerAt) (at : Span) (e : Ended) → AllCaused P asking → FollowsAsking asking was is at (Ok (flows.Ended e)) → P.end e
ended_by P (done row) was is at e cause (same, (adds, next, left)) = subst (λ (n : Next). Caused P n) next cause
ended_by P (asks asked on) was is at e cause (inl (calls, later, memory, left, adds)) = absurd cc
ended_by P (asks asked on) was is at e cause (inr (answer, mid, keeps, rest)) = ended_by P (on answer) mid is at e (cause answer) rest

-- it ends for a cause
pub ended_cause : (s : OpeningState) (event : Event) (told : Told) (was is : SignerAt) (at : Span) (e : Ended) → FollowsAsking (open_row s event told) was is at (Ok (flows.Ended e)) → IsEndCause s event e
ended_cause s event told was is at e follows = ended_by (why (WasToldNo told) s event) (open_row s event told) was is at e (open_cause s event told) follows

-- ---- a step with a gate

-- if the gate didn't accept the first exchange, the exchange has no host key, or the gate rejected the key
no_key : {E : Type 0} (gate : GateAnswers E) (o : Option ExchangeResult) (old mid : Outgoing) (told : Told) (key : Option PublicKeyOrCertificate) → Answered gate o old mid (Ok told) (key_asked key) → told ≢ telling.Went → SaysNoTo gate.judges key
no_key gate o old mid told None answered never = tt
no_key gate o old mid told (Some key) (Ok true, judges, (went, adds)) never = absurd (never went)
no_key gate o old mid told (Some key) (Ok false, judges, output) never = judges
no_key gate o old mid told (Some key) (Err e, judges, (is, same)) never = absurd cc

said_no : {E : Type 0} (gate : GateAnswers E) (s : OpeningState) (event : Event) (old mid : Outgoing) (told : Told) → s.closed ≡ false → Answered gate (exchange_in event) old mid (Ok told) (asked_of s event) → SaysAlso (WasToldNo told) (GateSaysNo gate) s event
said_no gate s event old mid told fresh answered = λ x is peer first no.
    let asked : asked_of s event ≡ key_asked (host_key x.key) = first_asks s event x fresh is peer first in
    no_key gate (exchange_in event) old mid told (host_key x.key) (subst (λ (asks : Asks). Answered gate (exchange_in event) old mid (Ok told) asks) asked answered) no

-- the rest of a row, with its error as the gate reports it
pub told_cause : {E : Type 0} (gate : GateAnswers E) (event : Event) (was is : LentGate) (old mid : Outgoing) (told : Told) (answer : Step Error) (result : Step E) →
    result ≡ map_step gate.told_as answer → was.rest.opening.closed ≡ false → Answered gate (exchange_in event) old mid (Ok told) (asked_of was.rest.opening event) →
    HasCause told event (record was.rest { outbox = mid }) is.rest answer → HasGateCause gate event was is result
told_cause gate event was is old mid told steps.Went result same fresh answered reason = rw same tt
told_cause gate event was is old mid told steps.Opened result same fresh answered reason = rw same tt
told_cause gate event was is old mid told (steps.Ended x) result same fresh answered reason = rw same reason
told_cause gate event was is old mid told (steps.Refused e) result same fresh answered reason =
    rw same (inl (e, refl, cause_also (WasToldNo told) (GateSaysNo gate) was.rest.opening event e (said_no gate was.rest.opening event old mid told fresh answered) reason.0, reason.1))
told_cause gate event was is old mid told steps.Closed result same fresh answered reason = rw same tt

-- ---- what the gate was asked and what it returned

fits_told : {E : Type 0} (tells : Result (Unit {0}) E → List Record → Type 0) (old mid : Outgoing) (told : Told) → Tells tells old mid (Ok told) → told ≡ telling.Went
fits_told tells old mid told (went, adds) = went

fits_judged : {E : Type 0} (tells : Result (Unit {0}) E → List Record → Type 0) (old mid : Outgoing) (told : Told) (key : PublicKeyOrCertificate) (verdict : Result Bool E) → Judged tells old mid (Ok told) verdict → FitsAsked (asking.HostKey key) told
fits_judged tells old mid told key (Ok true) (went, adds) = rw went tt
fits_judged tells old mid told key (Ok false) (is, same) = let no : told ≡ telling.No = cc in rw no tt
fits_judged tells old mid told key (Err e) (is, same) = absurd cc

-- what a gate returned fits what it was asked
pub fits_asked : {E : Type 0} (gate : GateAnswers E) (o : Option ExchangeResult) (old mid : Outgoing) (told : Told) (wanted : Asks) → Answered gate o old mid (Ok told) wanted → FitsAsked wanted told
fits_asked gate o old mid told asking.Nothing (is, same) = cc
fits_asked gate o old mid told (asking.HostKey key) (verdict, judges, judged) = fits_judged (told_of gate o) old mid told key verdict judged
fits_asked gate o old mid told asking.Exchange tells = fits_told (told_of gate o) old mid told tells
fits_asked gate o old mid told (asking.Banner shown) tells = fits_told (gate.tells_banner shown) old mid told tells

-- a signer that isn't asked
pub unasked : (calls : List SignCall) (refusals : ℕ) → SignerGrows calls calls refusals refusals
unasked calls refusals = record {
  gained = sym (append-nil calls) ∙ ap (λ (more : List SignCall). calls ++ more) (sym (drop-length calls));
  later = omega arith;
}

true_not_false : true ≡ false → ⊥
true_not_false same = absurd cc

-- a step whose row doesn't ask the gate
pub by_table_unasked : {E : Type 0} (told_as : Error → E) (judges : PublicKeyOrCertificate → Result Bool E → Type 0) (tells : Option (List ℕ) → ExchangeNames → Result (Unit {0}) E → List Record → Type 0) (tells_banner : List ℕ → Result (Unit {0}) E → List Record → Type 0)
    (event : Event) (s t : OpeningState) (old new : Outgoing) (calls calls2 : List SignCall) (x x2 r : ℕ) (setting : List (List ℕ)) (answer : Step Error) (result : Step E) →
    s.closed ≡ false → asked_of s event ≡ asking.Nothing → result ≡ map_step told_as answer →
    Applied telling.NotAsked event (lent s old calls x) (lent t new calls2 x2) answer →
    ByTable (gate_answers told_as judges tells tells_banner) event (with_gate (lent s old calls x) r setting) (with_gate (lent t new calls2 x2) r setting) result
by_table_unasked told_as judges tells tells_banner event s t old new calls calls2 x x2 r setting answer result fresh nothing told applied =
    let gate = gate_answers told_as judges tells tells_banner in
    let answered : Answered gate (exchange_in event) old old (Ok telling.NotAsked) (asked_of s event)
    = subst (λ (wanted : Asks). Answered gate (exchange_in event) old old (Ok telling.NotAsked) wanted) (sym nothing) (refl, refl) in
    record {
      closed = λ closed. absurd (true_not_false (sym closed ∙ fresh));
      row = λ still. inr (Ok telling.NotAsked, old, answered, (answer, told, applied.row still));
      cause = told_cause gate event (with_gate (lent s old calls x) r setting) (with_gate (lent t new calls2 x2) r setting) old old telling.NotAsked answer result told fresh answered applied.cause;
      signer = applied.signer;
      keeps = record { later = omega arith; kept = refl };
    }
