-- The handler's verdict before the session is open, and the opening's step that continues with it.
use Rattle.std.proofs.Common.{◌≡◌, ◌⊎◌, ◌≤◌, inl, inr, ℕ, Bool, true, false, not, ◌&&◌, List, [], ◌∷◌, Option, Some, None, Result, Ok, Err, refl, ap, sym, subst, ◌∙◌, arith}
use Rattle.std.specs.Prelude.{min, ◌+◌, ◌^◌, ◌-◌}
use Rattle.sshc_wire.specs.Faults.{Rose}
use Rattle.sshc_wire.specs.Outgoing.{Outgoing}
use Rattle.sshc_wire.specs.declared.record.Record.{Record}
use Rattle.sshc_key.specs.Signers.{SignCall}
use Rattle.sshc_key.specs.declared.identity.PublicKeyOrCertificate.{PublicKeyOrCertificate}
use Rattle.sshc_auth_event.specs.HostKey.{host_key}
use Rattle.sshc_auth_event.specs.declared.event.Event.{Event}
use Rattle.sshc_auth_event.specs.declared.event.Event.TheVariants as events
use Rattle.sshc_transport.specs.declared.exchange.ExchangeResult.{ExchangeResult}
use Rattle.sshc_auth.specs.declared.error.Error.{Error}
use Rattle.sshc_auth.specs.declared.step.Asks.{Asks}
use Rattle.sshc_auth.specs.declared.step.Asks.TheVariants as asking
use Rattle.sshc_auth.specs.declared.step.Step.{Step}
use Rattle.sshc_auth.specs.declared.step.Step.TheVariants as steps
use Rattle.sshc_auth.specs.declared.step.Told.{Told}
use Rattle.sshc_auth.specs.AskedLaws.{AsksFor, asks_for, first_asks}
use Rattle.sshc_auth.specs.CauseLaws.{SaysAlso, cause_also}
use Rattle.sshc_auth.specs.Causes.{GateSaysNo, HasGateCause, SaysNoTo}
use Rattle.sshc_auth.specs.OpeningState.{OpeningState}
use Rattle.sshc_auth.specs.OpeningTable.{asked_of, key_asked}
use Rattle.sshc_auth.specs.Promises.{Stepped}
use Rattle.sshc_auth.specs.SessionWords.{AcceptsFirst, GoesOnFirst, IsFirst, KeepsFirst, KeepsTo}
use Rattle.sshc_auth.specs.Stepping.{Lent as OpeningLent, Answered, GateAnswers, GateKeeps, GateRefused, Judged, LentGate, StaysClosed, StepsBy, StepsTold, Tells, exchange_in, told_of, with_gate, lent}
use Rattle.sshc_client_table.specs.SessionRow.{Banner, Callback, HostKey, KexDone}
use Rattle.sshc_client_table.specs.SessionState.{SessionState}
use Rattle.sshc_client_table.specs.Grown.{Grown}
use Rattle.sshc_client_table.specs.GrownLaws.{grown_same}
use Rattle.sshc_client_state.specs.OpeningStep.{StepsLent, goes_on, lent_session, outbox_of}
use Rattle.sshc_client.specs.Asked.{AsksHandler, IsVerdict, Said, Says, StepsBefore, verdict_gate}
use Rattle.sshc_client.specs.Handling.{HandlerAt, HandlerHeard, HandlerKept, Handles}
use Rattle.sshc_client.specs.HandledStep.{AddsNothing, EndsBy, HearsAsked, exchange_call, handler_gate, has_left}
use Rattle.sshc_client.proofs.HandlerLemmas.{keeps_on, same_handler, rose_later, no_default}

-- whatever it was asked, its count of refusals never fell, and what it judges by didn't change
pub heard_keeps : {E : Type 0} (judges : PublicKeyOrCertificate → Result Bool E → Type 0) (asks : Asks) (exchange : Option ExchangeResult) (was is : HandlerAt) → HearsAsked judges asks exchange was is → HandlerKept was is
heard_keeps judges asking.Nothing exchange was is keeps = record { later = keeps.later; kept = keeps.kept }
heard_keeps judges (asking.HostKey key) exchange was is (inl keeps) = record { later = keeps.later; kept = keeps.kept }
heard_keeps judges (asking.HostKey key) exchange was is (inr (says, keeps)) = record { later = keeps.later; kept = keeps.kept }
heard_keeps judges asking.Exchange exchange was is keeps = record { later = keeps.later; kept = keeps.kept }
heard_keeps judges (asking.Banner text) exchange was is keeps = record { later = keeps.later; kept = keeps.kept }

-- ---- the handler's verdict

pub not_asked : {E : Type 0} (defaults : Type 0) (judges : PublicKeyOrCertificate → Result Bool E → Type 0) (exchange : Option ExchangeResult) (h : HandlerAt) (s : SessionState) →
    AsksHandler {E = E} defaults judges asking.Nothing exchange h h s s (Ok false)
not_asked defaults judges exchange h s = record { said = (refl, λ plain. refl); grown = grown_same s; unlent = λ none. refl; keeps = same_handler h }

heard_exchange : (was is : HandlerAt) (exchange : Option ExchangeResult) (x : ExchangeResult) → Some x ≡ exchange → HandlerHeard (KexDone x.secret x.names ∷ []) was is → HandlerHeard (exchange_call exchange) was is
heard_exchange was is exchange x there heard = subst (λ (o : Option ExchangeResult). HandlerHeard (exchange_call o) was is) there heard

-- called for an exchange, or for a banner
pub told_exchange : {E : Type 0} (defaults : Type 0) (judges : PublicKeyOrCertificate → Result Bool E → Type 0) (exchange : Option ExchangeResult) (x : ExchangeResult) (was is : HandlerAt) (old new : SessionState) (u : Unit {0}) →
    Some x ≡ exchange → Handles {E = E} defaults (KexDone x.secret x.names) (Ok tt) was is old new (Ok u) → AsksHandler {E = E} defaults judges asking.Exchange exchange was is old new (Ok false)
told_exchange defaults judges exchange x was is old new u there h = record { said = (refl, λ plain. (h.default_body plain).1); grown = h.grown; unlent = λ none. absurd (none tt); keeps = heard_exchange was is exchange x there h.keeps }

pub told_banner : {E : Type 0} (defaults : Type 0) (judges : PublicKeyOrCertificate → Result Bool E → Type 0) (exchange : Option ExchangeResult) (was is : HandlerAt) (old new : SessionState) (u : Unit {0}) (text : List ℕ) →
    Handles {E = E} defaults (Banner text) (Ok tt) was is old new (Ok u) → AsksHandler {E = E} defaults judges (asking.Banner text) exchange was is old new (Ok false)
told_banner defaults judges exchange was is old new u text h = record { said = (refl, λ plain. (h.default_body plain).1); grown = h.grown; unlent = λ none. absurd (none tt); keeps = h.keeps }

pub refused_exchange : {E : Type 0} (defaults : Type 0) (judges : PublicKeyOrCertificate → Result Bool E → Type 0) (exchange : Option ExchangeResult) (x : ExchangeResult) (was is : HandlerAt) (old new : SessionState) (e : E) →
    Some x ≡ exchange → Handles {T = Unit {0}} defaults (KexDone x.secret x.names) (Ok tt) was is old new (Err e) → AsksHandler defaults judges asking.Exchange exchange was is old new (Err e)
refused_exchange defaults judges exchange x was is old new e there h = record {
  said = (inr (tt, λ plain. no_default tt e (h.default_body plain).0), h.cause);
  grown = h.grown;
  unlent = λ none. absurd (none tt);
  keeps = heard_exchange was is exchange x there h.keeps;
}

pub refused_banner : {E : Type 0} (defaults : Type 0) (judges : PublicKeyOrCertificate → Result Bool E → Type 0) (exchange : Option ExchangeResult) (was is : HandlerAt) (old new : SessionState) (e : E) (text : List ℕ) →
    Handles {T = Unit {0}} defaults (Banner text) (Ok tt) was is old new (Err e) → AsksHandler defaults judges (asking.Banner text) exchange was is old new (Err e)
refused_banner defaults judges exchange was is old new e text h = record {
  said = (inr (tt, λ plain. no_default tt e (h.default_body plain).0), h.cause);
  grown = h.grown;
  unlent = λ none. absurd (none tt);
  keeps = h.keeps;
}

-- the host key was judged
pub key_said_no : {E : Type 0} (defaults : Type 0) (judges : PublicKeyOrCertificate → Result Bool E → Type 0) (key : PublicKeyOrCertificate) (x : ExchangeResult) (was is : HandlerAt) (s : SessionState) →
    judges key (Ok false) → HandlerHeard (HostKey key ∷ []) was is → AsksHandler {E = E} defaults judges (asking.HostKey key) (Some x) was is s s (Ok false)
key_said_no defaults judges key x was is s says keeps = record { said = (says, λ plain. refl); grown = grown_same s; unlent = λ none. refl; keeps = inl keeps }

pub key_refused : {E : Type 0} (defaults : Type 0) (judges : PublicKeyOrCertificate → Result Bool E → Type 0) (key : PublicKeyOrCertificate) (x : ExchangeResult) (was is : HandlerAt) (s : SessionState) (e : E) →
    judges key (Err e) → Rose was.refusals is.refusals → HandlerHeard (HostKey key ∷ []) was is → AsksHandler defaults judges (asking.HostKey key) (Some x) was is s s (Err e)
key_refused defaults judges key x was is s e says rose keeps = record { said = (inl (says, refl), rose); grown = grown_same s; unlent = λ none. refl; keeps = inl keeps }

pub key_told : {E : Type 0} (defaults : Type 0) (judges : PublicKeyOrCertificate → Result Bool E → Type 0) (key : PublicKeyOrCertificate) (x : ExchangeResult) (was mid is : HandlerAt) (old new : SessionState) (u : Unit {0}) →
    judges key (Ok true) → HandlerHeard (HostKey key ∷ []) was mid → Handles {E = E} defaults (KexDone x.secret x.names) (Ok tt) mid is old new (Ok u) → AsksHandler {E = E} defaults judges (asking.HostKey key) (Some x) was is old new (Ok true)
key_told defaults judges key x was mid is old new u says keeps h = record {
  said = (says, λ plain. (h.default_body plain).1);
  grown = h.grown;
  unlent = λ none. absurd (none tt);
  keeps = inr (says, keeps_on was mid is keeps h.keeps);
}

pub key_told_refused : {E : Type 0} (defaults : Type 0) (judges : PublicKeyOrCertificate → Result Bool E → Type 0) (key : PublicKeyOrCertificate) (x : ExchangeResult) (was mid is : HandlerAt) (old new : SessionState) (e : E) →
    judges key (Ok true) → HandlerHeard (HostKey key ∷ []) was mid → Handles {T = Unit {0}} defaults (KexDone x.secret x.names) (Ok tt) mid is old new (Err e) → AsksHandler defaults judges (asking.HostKey key) (Some x) was is old new (Err e)
key_told_refused defaults judges key x was mid is old new e says keeps h = record {
  said = (inr (tt, λ plain. no_default tt e (h.default_body plain).0), rose_later was.refusals mid.refusals is.refusals keeps.later h.cause);
  grown = h.grown;
  unlent = λ none. absurd (none tt);
  keeps = inr (says, keeps_on was mid is keeps h.keeps);
}

-- the exchange of an event
pub judged_in : {E : Type 0} (defaults : Type 0) (judges : PublicKeyOrCertificate → Result Bool E → Type 0) (asks : Asks) (exchange : Option ExchangeResult) (x : ExchangeResult) (was is : HandlerAt) (old new : SessionState) (result : Result Bool E) →
    Some x ≡ exchange → AsksHandler defaults judges asks (Some x) was is old new result → AsksHandler defaults judges asks exchange was is old new result
judged_in defaults judges asks exchange x was is old new result there h = subst (λ (o : Option ExchangeResult). AsksHandler defaults judges asks o was is old new result) there h

-- ---- a step with the verdict is a step with the handler

verdict_by : {E : Type 0} (judges : PublicKeyOrCertificate → Result Bool E → Type 0) (key : PublicKeyOrCertificate) (accepts : Bool) (verdict : Result Bool E) →
    judges key (Ok accepts) → Says accepts key verdict → judges key verdict
verdict_by judges key accepts verdict said same = subst (judges key) (sym same) said

answered : {E : Type 0} (told_as : Error → E) (judges : PublicKeyOrCertificate → Result Bool E → Type 0) (accepts : Bool) (x : Option ExchangeResult) (old new : Outgoing) (told : Result Told E) (asks : Asks) →
    IsVerdict judges asks accepts → Answered (verdict_gate told_as accepts) x old new told asks → Answered (handler_gate told_as judges) x old new told asks
answered told_as judges accepts x old new told asking.Nothing said a = a
answered told_as judges accepts None old new told (asking.HostKey key) said (verdict, same, judged) = (verdict, verdict_by judges key accepts verdict said same, judged)
answered told_as judges accepts (Some x) old new told (asking.HostKey key) said (verdict, same, judged) = (verdict, verdict_by judges key accepts verdict said same, judged)
answered told_as judges accepts None old new told asking.Exchange said a = a
answered told_as judges accepts (Some x) old new told asking.Exchange said a = a
answered told_as judges accepts x old new told (asking.Banner text) said a = a

told_so : {E : Type 0} (told_as : Error → E) (judges : PublicKeyOrCertificate → Result Bool E → Type 0) (accepts : Bool) (event : Event) (was is : OpeningLent) (result : Step E) (told : Result Told E) →
    StepsTold (verdict_gate told_as accepts) event was is result told → StepsTold (handler_gate told_as judges) event was is result told
told_so told_as judges accepts event was is result (Ok told) f = f
told_so told_as judges accepts event was is result (Err e) f = f

steps_by : {E : Type 0} (told_as : Error → E) (judges : PublicKeyOrCertificate → Result Bool E → Type 0) (accepts : Bool) (event : Event) (was is : OpeningLent) (result : Step E) →
    IsVerdict judges (asked_of was.opening event) accepts → StepsBy (verdict_gate told_as accepts) event was is result → StepsBy (handler_gate told_as judges) event was is result
steps_by told_as judges accepts event was is result said (inl f) = inl f
steps_by told_as judges accepts event was is result said (inr (told, mid, a, f)) =
    inr (told, mid, answered told_as judges accepts (exchange_in event) was.outbox mid told (asked_of was.opening event) said a, told_so told_as judges accepts event (record was { outbox = mid }) is result told f)

same_done : (x y : ExchangeResult) → events.ExchangeDone x ≡ events.ExchangeDone y → x ≡ y
same_done x y same = cc

same_some : (x y : PublicKeyOrCertificate) → Some x ≡ Some y → x ≡ y
same_some x y same = cc

same_verdict : {E : Type 0} (key : PublicKeyOrCertificate) (said accepts : Bool) → Says {E = E} accepts key (Ok said) → said ≡ accepts
same_verdict key said accepts same = cc

denied : {E : Type 0} (key : PublicKeyOrCertificate) (accepts : Bool) → accepts ≡ false → Says {E = E} accepts key (Ok true) → ⊥
denied {E = E} key accepts refused said = let clash : true ≡ false = same_verdict {E = E} key true accepts said ∙ refused in absurd cc

-- if the verdict is no, the handler's was no
no_of : {E : Type 0} (judges : PublicKeyOrCertificate → Result Bool E → Type 0) (accepts : Bool) (key : Option PublicKeyOrCertificate) →
    IsVerdict judges (key_asked key) accepts → SaysNoTo (Says {E = E} accepts) key → SaysNoTo judges key
no_of judges accepts None said denies = tt
no_of {E = E} judges accepts (Some key) said denies = subst (judges key) (sym denies) said

says_also : {E : Type 0} (told_as : Error → E) (judges : PublicKeyOrCertificate → Result Bool E → Type 0) (accepts : Bool) (s : OpeningState) (event : Event) → s.closed ≡ false →
    IsVerdict judges (asked_of s event) accepts → SaysAlso (GateSaysNo (verdict_gate told_as accepts)) (GateSaysNo (handler_gate told_as judges)) s event
says_also told_as judges accepts s event fresh said = λ x is peer first denies.
    no_of judges accepts (host_key x.key) (subst (λ (asks : Asks). IsVerdict judges asks accepts) (first_asks s event x fresh is peer first) said) denies

never_rose : Rose 0 0 → ⊥
never_rose rose = absurd (omega (arith, rose))

caused : {E : Type 0} (told_as : Error → E) (judges : PublicKeyOrCertificate → Result Bool E → Type 0) (accepts : Bool) (event : Event) (was is : OpeningLent) (r r2 : ℕ) (setting setting2 : List (List ℕ)) (result : Step E) →
    (was.opening.closed ≡ true → result ≡ steps.Closed) → IsVerdict judges (asked_of was.opening event) accepts →
    HasGateCause (verdict_gate told_as accepts) event (with_gate was 0 []) (with_gate is 0 []) result →
    HasGateCause (handler_gate told_as judges) event (with_gate was r setting) (with_gate is r2 setting2) result
caused told_as judges accepts event was is r r2 setting setting2 steps.Went closed said cause = tt
caused told_as judges accepts event was is r r2 setting setting2 steps.Opened closed said cause = tt
caused told_as judges accepts event was is r r2 setting setting2 steps.Closed closed said cause = tt
caused told_as judges accepts event was is r r2 setting setting2 (steps.Ended e) closed said cause = cause
caused told_as judges accepts event was is r r2 setting setting2 (steps.Refused e) closed said (inr (refuses, rose)) = absurd (never_rose rose)
caused told_as judges accepts event was is r r2 setting setting2 (steps.Refused e) closed said (inl (why, is_told, cause, rose)) =
    let also = cause_also (GateSaysNo (verdict_gate told_as accepts)) (GateSaysNo (handler_gate told_as judges)) was.opening event why
    (says_also told_as judges accepts was.opening event (by was.opening.closed refl) said) cause in
    inl (why, is_told, also, rose)
  where
    by : (b : Bool) → was.opening.closed ≡ b → was.opening.closed ≡ false
    by true is_closed = let clash : steps.Refused e ≡ steps.Closed = closed is_closed in absurd cc
    by false is_open = is_open

-- the host key of an exchange is the one that the handler was asked about
accepted_first : {E : Type 0} (told_as : Error → E) (judges : PublicKeyOrCertificate → Result Bool E → Type 0) (accepts : Bool) (event : Event) (s t : OpeningState) (asks : Asks) → asked_of s event ≡ asks → IsVerdict judges asks accepts →
    AcceptsFirst (verdict_gate told_as accepts) event t → AcceptsFirst (handler_gate told_as judges) event t
accepted_first {E = E} told_as judges accepts event s t (asking.HostKey key) asked said a =
    let for : AsksFor s event key = asks_for s event key asked in
    let same_exchange : a.exchange ≡ for.exchange = same_done a.exchange for.exchange (sym a.is_done ∙ for.is) in
    let same_key : key ≡ a.key = same_some key a.key (sym for.has ∙ ap (λ (x : ExchangeResult). host_key x.key) (sym same_exchange) ∙ a.is_there) in
    record {
      exchange = a.exchange;
      is_done = a.is_done;
      key = a.key;
      is_there = a.is_there;
      accepted = subst (λ (k : PublicKeyOrCertificate). judges k (Ok true)) same_key (subst (judges key) (sym a.accepted) said);
      session_id = a.session_id;
      kept = a.kept;
    }
accepted_first {E = E} told_as judges accepts event s t asking.Nothing asked said a = absurd (denied {E = E} a.key accepts said a.accepted)
accepted_first {E = E} told_as judges accepts event s t asking.Exchange asked said a = absurd (denied {E = E} a.key accepts said a.accepted)
accepted_first {E = E} told_as judges accepts event s t (asking.Banner text) asked said a = absurd (denied {E = E} a.key accepts said a.accepted)

kept_first : {E : Type 0} (told_as : Error → E) (judges : PublicKeyOrCertificate → Result Bool E → Type 0) (accepts : Bool) (event : Event) (was is : OpeningLent) (result : Step E) → IsVerdict judges (asked_of was.opening event) accepts →
    KeepsFirst (verdict_gate told_as accepts) event was is result → KeepsFirst (handler_gate told_as judges) event was is result
kept_first {E = E} told_as judges accepts event was is result said k = record { unwritten = k.unwritten; behind = by k.behind }
  where
    by : GoesOnFirst is.opening result ⊎ AcceptsFirst (verdict_gate told_as accepts) event is.opening → GoesOnFirst is.opening result ⊎ AcceptsFirst (handler_gate told_as judges) event is.opening
    by (inl goes_on) = inl goes_on
    by (inr accepted) = inr (accepted_first told_as judges accepts event was.opening is.opening (asked_of was.opening event) refl said accepted)

-- a step of the opening with the verdict is one with the handler whose verdict it is
stepped_with : {E : Type 0} (told_as : Error → E) (judges : PublicKeyOrCertificate → Result Bool E → Type 0) (accepts : Bool) (event : Event) (was is : OpeningLent) (r r2 : ℕ) (setting setting2 : List (List ℕ)) (result : Step E) →
    IsVerdict judges (asked_of was.opening event) accepts → GateKeeps r r2 setting setting2 →
    Stepped (verdict_gate told_as accepts) event (with_gate was 0 []) (with_gate is 0 []) result →
    Stepped (handler_gate told_as judges) event (with_gate was r setting) (with_gate is r2 setting2) result
stepped_with told_as judges accepts event was is r r2 setting setting2 result said keeps step = record {
  closed = step.closed;
  row = λ fresh. steps_by told_as judges accepts event was is result said (step.row fresh);
  cause = caused told_as judges accepts event was is r r2 setting setting2 result (λ closed. (step.closed closed).0) said step.cause;
  signer = step.signer;
  keeps = keeps;
  laws = record {
    first = λ first. kept_first told_as judges accepts event was is result said (step.laws.first first);
    session = step.laws.session;
    key = step.laws.key;
    asked = step.laws.asked;
    handed = step.laws.handed;
    once = step.laws.once;
    request = step.laws.request;
    answers = step.laws.answers;
  };
  passwords = step.passwords;
  reports = step.reports;
}

pub lent_with : {E : Type 0} (told_as : Error → E) (judges : PublicKeyOrCertificate → Result Bool E → Type 0) (accepts : Bool) (event : Event) (s t : SessionState) (calls calls2 : List SignCall) (refusals refusals2 r r2 : ℕ) (setting setting2 : List (List ℕ)) (result : Step E) {heard heard2 : List Callback} →
    IsVerdict judges (asked_of s.opening event) accepts → GateKeeps r r2 setting setting2 →
    StepsLent (verdict_gate told_as accepts) event (lent_session s calls refusals 0 [] []) (lent_session t calls2 refusals2 0 [] []) result →
    StepsLent (handler_gate told_as judges) event (lent_session s calls refusals r setting heard) (lent_session t calls2 refusals2 r2 setting2 heard2) result
lent_with told_as judges accepts event s t calls calls2 refusals refusals2 r r2 setting setting2 result said keeps step = record {
  opening = step.opening;
  output = step.output;
  stepped = stepped_with told_as judges accepts event (lent s.opening (outbox_of s) calls refusals) (lent step.opening step.output calls2 refusals2) r r2 setting setting2 result said keeps step.stepped;
  rest = step.rest;
}

-- the opening's step, and the end of a session that the user left
pub ended_before : {E : Type 0} (gate : GateAnswers E) (event : Event) (s last t : SessionState) (calls calls2 : List SignCall) (x x2 r r2 : ℕ) (setting setting2 : List (List ℕ)) (step result : Step E) {heard heard2 : List Callback} →
    StepsLent gate event (lent_session s calls x r setting heard) (lent_session last calls2 x2 r2 setting2 heard2) step →
    EndsBy (goes_on step && has_left last.life) last t step result →
    StepsBefore gate event (lent_session s calls x r setting heard) (lent_session t calls2 x2 r2 setting2 heard2) result
ended_before gate event s last t calls calls2 x x2 r r2 setting setting2 step result stepped ends = record { last = last; step = step; stepped = stepped; ends = ends }
