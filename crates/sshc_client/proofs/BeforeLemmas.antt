-- A step before the session is open, by what the handler returned.
use Rattle.std.proofs.Common.{◌≡◌, ◌⊎◌, inl, inr, ℕ, Bool, true, false, ◌&&◌, List, [], Option, Some, None, Result, Ok, Err, refl, ap, sym, subst, ◌∙◌}
use Rattle.std.specs.Prelude.{if◌then◌else◌}
use Rattle.sshc_wire.specs.Faults.{Rose}
use Rattle.sshc_key.specs.Signers.{SignCall}
use Rattle.sshc_key.specs.declared.identity.PublicKeyOrCertificate.{PublicKeyOrCertificate}
use Rattle.sshc_auth_event.specs.declared.event.Event.{Event}
use Rattle.sshc_transport.specs.declared.exchange.ExchangeResult.{ExchangeResult}
use Rattle.sshc_auth.specs.declared.error.Error.{Error}
use Rattle.sshc_auth.specs.declared.error.Error.TheVariants.{NoMemory}
use Rattle.sshc_auth.specs.declared.step.Asks.{Asks}
use Rattle.sshc_auth.specs.declared.step.Asks.TheVariants as asking
use Rattle.sshc_auth.specs.declared.step.Step.{Step}
use Rattle.sshc_auth.specs.declared.step.Step.TheVariants as steps
use Rattle.sshc_auth.specs.AskedLaws.{has_exchange}
use Rattle.sshc_auth.specs.OpeningState.{OpeningState}
use Rattle.sshc_auth.specs.OpeningTable.{asked_of}
use Rattle.sshc_auth.specs.Stepping.{GateKeeps, HasExchange, exchange_in}
use Rattle.sshc_client_table.specs.SessionRow.{Callback}
use Rattle.sshc_client_table.specs.SessionState.{SessionState, is_live, is_open, runs}
use Rattle.sshc_client_table.specs.declared.life.Life.TheVariants.{Runs}
use Rattle.sshc_client_table.specs.Grown.{Grown}
use Rattle.sshc_client_table.specs.GrownLaws.{grown_same}
use Rattle.sshc_client_table.specs.KeepLaws.{grown_keeps}
use Rattle.sshc_client_state.specs.OpeningStep.{lent_session}
use Rattle.sshc_client.specs.Asked.{AsksHandler, IsVerdict, Refuses, RefusesKey, Said, StepsBefore, verdict_gate}
use Rattle.sshc_client.specs.Handling.{HandlerAt, HandlerHeard, handler_at}
use Rattle.sshc_client.specs.HandledStep.{Before, HearsAsked, IsCall, RefusedBefore, StepsBehind, WhyRefused, handler_gate, shut_session}
use Rattle.sshc_client.proofs.AskedLemmas.{heard_keeps, lent_with}
use Rattle.sshc_client.proofs.HandlerLemmas.{same_handler, unheard}

pub exchange_there : (s : OpeningState) (event : Event) (asks : Asks) → asks ≡ asked_of s event → HasExchange asks (exchange_in event)
exchange_there s event asks asked = subst (λ (a : Asks). HasExchange a (exchange_in event)) (sym asked) (has_exchange s event)

closed_asks : (s : OpeningState) (event : Event) → s.closed ≡ true → asked_of s event ≡ asking.Nothing
unfolding asked_of
closed_asks s event closed = rw closed refl

gate_keeps : {calls : List Callback} (r r2 : ℕ) (setting setting2 : List (List ℕ)) {heard heard2 : List Callback} → HandlerHeard calls (handler_at r setting heard) (handler_at r2 setting2 heard2) → GateKeeps r r2 setting setting2
gate_keeps r r2 setting setting2 keeps = record { later = keeps.later; kept = keeps.kept }

asked_keeps : {E : Type 0} (judges : PublicKeyOrCertificate → Result Bool E → Type 0) (asks : Asks) (exchange : Option ExchangeResult) (r r2 : ℕ) (setting setting2 : List (List ℕ)) (heard heard2 : List Callback) →
    HearsAsked judges asks exchange (handler_at r setting heard) (handler_at r2 setting2 heard2) → GateKeeps r r2 setting setting2
asked_keeps judges asks exchange r r2 setting setting2 heard heard2 keeps =
    let kept = heard_keeps judges asks exchange (handler_at r setting heard) (handler_at r2 setting2 heard2) keeps in record { later = kept.later; kept = kept.kept }

-- a handler that wasn't called
unasked : {E : Type 0} (judges : PublicKeyOrCertificate → Result Bool E → Type 0) (asks : Asks) (exchange : Option ExchangeResult) (h : HandlerAt) → HearsAsked judges asks exchange h h
unasked judges asking.Nothing exchange h = same_handler h
unasked judges (asking.HostKey key) exchange h = inl (unheard _ h h (same_handler h))
unasked judges asking.Exchange exchange h = unheard _ h h (same_handler h)
unasked judges (asking.Banner text) exchange h = unheard _ h h (same_handler h)

-- the row calls nobody
pub steps_unasked : {E : Type 0} (defaults : Type 0) (told_as : Error → E) (judges : PublicKeyOrCertificate → Result Bool E → Type 0) (event : Event) (s t : SessionState) (calls calls2 : List SignCall) (x x2 r : ℕ) (setting : List (List ℕ)) (result : Step E) {heard : List Callback} →
    asked_of s.opening event ≡ asking.Nothing → StepsBefore (verdict_gate told_as false) event (lent_session s calls x 0 [] []) (lent_session t calls2 x2 0 [] []) result →
    Before defaults (handler_gate told_as judges) event (lent_session s calls x r setting heard) (lent_session t calls2 x2 r setting heard) result
steps_unasked {E = E} defaults told_as judges event s t calls calls2 x x2 r setting result {heard = heard} nothing b =
    let keeps = same_handler (handler_at r setting heard) in
    record {
      steps_on = inl (record {
        mid = s;
        grown = grown_same s;
        same = λ plain. refl;
        unlent = λ none. refl;
        last = b.last;
        step = b.step;
        stepped = lent_with told_as judges false event s b.last calls calls2 x x2 r r setting setting b.step
            (subst (λ (asks : Asks). IsVerdict judges asks false) (sym nothing) refl) (gate_keeps r r setting setting keeps) b.stepped;
        ends = b.ends;
      });
      keeps = unasked judges (asked_of s.opening event) (exchange_in event) (handler_at r setting heard);
    }

-- the opening is closed, and nothing is called
pub steps_closed : {E : Type 0} (defaults : Type 0) (told_as : Error → E) (judges : PublicKeyOrCertificate → Result Bool E → Type 0) (event : Event) (s t : SessionState) (calls calls2 : List SignCall) (x x2 r : ℕ) (setting : List (List ℕ)) (result : Step E) {heard : List Callback} →
    s.opening.closed ≡ true → StepsBefore (verdict_gate told_as false) event (lent_session s calls x 0 [] []) (lent_session t calls2 x2 0 [] []) result →
    Before defaults (handler_gate told_as judges) event (lent_session s calls x r setting heard) (lent_session t calls2 x2 r setting heard) result
steps_closed defaults told_as judges event s t calls calls2 x x2 r setting result closed b =
    steps_unasked defaults told_as judges event s t calls calls2 x x2 r setting result (closed_asks s.opening event closed) b

-- the handler let the opening continue
pub steps_behind : {E : Type 0} (defaults : Type 0) (told_as : Error → E) (judges : PublicKeyOrCertificate → Result Bool E → Type 0) (event : Event) (asks : Asks) (accepts : Bool) (s mid t : SessionState) (calls calls2 : List SignCall) (x x2 r r2 : ℕ) (setting setting2 : List (List ℕ)) (result : Step E) {heard heard2 : List Callback} →
    s.opening.closed ≡ false → asks ≡ asked_of s.opening event →
    AsksHandler {E = E} defaults judges asks (exchange_in event) (handler_at r setting heard) (handler_at r2 setting2 heard2) s mid (Ok accepts) → is_open s.opening.phase ≡ false →
    StepsBefore (verdict_gate told_as accepts) event (lent_session mid calls x 0 [] []) (lent_session t calls2 x2 0 [] []) result →
    Before defaults (handler_gate told_as judges) event (lent_session s calls x r setting heard) (lent_session t calls2 x2 r2 setting2 heard2) result
steps_behind {E = E} defaults told_as judges event asks accepts s mid t calls calls2 x x2 r r2 setting setting2 result {heard = heard} {heard2 = heard2} fresh asked h early b = record {
  steps_on = inl (record {
    mid = mid;
    grown = h.grown;
    same = h.said.1;
    unlent = λ none. h.unlent (λ call. none (subst IsCall asked call));
    last = b.last;
    step = b.step;
    stepped = lent_with told_as judges accepts event mid b.last calls calls2 x x2 r r2 setting setting2 b.step
        (subst (λ (a : Asks). IsVerdict judges a accepts) (asked ∙ ap (λ (o : OpeningState). asked_of o event) (sym ((grown_keeps s mid h.grown).closed early).0)) h.said.0)
        (asked_keeps judges asks (exchange_in event) r r2 setting setting2 heard heard2 h.keeps) b.stepped;
    ends = b.ends;
  });
  keeps = subst (λ (a : Asks). HearsAsked judges a (exchange_in event) (handler_at r setting heard) (handler_at r2 setting2 heard2)) asked h.keeps;
}

why_refused : {E : Type 0} (defaults : Type 0) (told_as : Error → E) (judges : PublicKeyOrCertificate → Result Bool E → Type 0) (event : Event) (asks : Asks) (s mid t : SessionState) (calls calls2 : List SignCall) (x x2 r r2 : ℕ) (setting setting2 : List (List ℕ)) (e : E) (heard heard2 : List Callback) →
    asked_of s.opening event ≡ asks → Refuses defaults judges asks s mid e → Rose r r2 →
    WhyRefused defaults (handler_gate told_as judges) event (lent_session s calls x r setting heard) (lent_session t calls2 x2 r2 setting2 heard2) mid e
why_refused defaults told_as judges event (asking.HostKey key) s mid t calls calls2 x x2 r r2 setting setting2 e heard heard2 asked (inl (says, same)) rose = inr (inl (key, asked, says, same, rose))
why_refused defaults told_as judges event asking.Nothing s mid t calls calls2 x x2 r r2 setting setting2 e heard heard2 asked (inl (never, same)) rose = absurd never
why_refused defaults told_as judges event asking.Exchange s mid t calls calls2 x x2 r r2 setting setting2 e heard heard2 asked (inl (never, same)) rose = absurd never
why_refused defaults told_as judges event (asking.Banner text) s mid t calls calls2 x x2 r r2 setting setting2 e heard heard2 asked (inl (never, same)) rose = absurd never
why_refused defaults told_as judges event asks s mid t calls calls2 x x2 r r2 setting setting2 e heard heard2 asked (inr (called, own_body)) rose = inr (inr (rose, subst IsCall (sym asked) called, own_body))

-- the handler refused
pub refused_before : {E : Type 0} (defaults : Type 0) (told_as : Error → E) (judges : PublicKeyOrCertificate → Result Bool E → Type 0) (event : Event) (asks : Asks) (s mid : SessionState) (calls : List SignCall) (x r r2 : ℕ) (setting setting2 : List (List ℕ)) (e : E) {heard heard2 : List Callback} →
    s.opening.closed ≡ false → asks ≡ asked_of s.opening event →
    AsksHandler {E = E} defaults judges asks (exchange_in event) (handler_at r setting heard) (handler_at r2 setting2 heard2) s mid (Err e) →
    Before defaults (handler_gate told_as judges) event (lent_session s calls x r setting heard) (lent_session (shut_session mid) calls x r2 setting2 heard2) (steps.Refused e)
refused_before {E = E} defaults told_as judges event asks s mid calls x r r2 setting setting2 e {heard = heard} {heard2 = heard2} fresh asked h = record {
  steps_on = inr (record {
    fresh = fresh;
    mid = mid;
    grown = h.grown;
    error = e;
    refused = refl;
    shut = refl;
    why = why_refused defaults told_as judges event asks s mid (shut_session mid) calls calls x x r r2 setting setting2 e heard heard2 (sym asked) h.said.0 h.said.1;
    calls = refl;
    refusals = refl;
  });
  keeps = subst (λ (a : Asks). HearsAsked judges a (exchange_in event) (handler_at r setting heard) (handler_at r2 setting2 heard2)) asked h.keeps;
}

-- memory ran out before the handler was asked
pub ran_out : {E : Type 0} (defaults : Type 0) (told_as : Error → E) (judges : PublicKeyOrCertificate → Result Bool E → Type 0) (event : Event) (s : SessionState) (calls : List SignCall) (x r : ℕ) (setting : List (List ℕ)) (e : E) {heard : List Callback} →
    s.opening.closed ≡ false → e ≡ told_as NoMemory →
    Before defaults (handler_gate told_as judges) event (lent_session s calls x r setting heard) (lent_session (shut_session s) calls x r setting heard) (steps.Refused e)
ran_out defaults told_as judges event s calls x r setting e {heard = heard} fresh is = record {
  steps_on = inr (record {
    fresh = fresh;
    mid = s;
    grown = grown_same s;
    error = e;
    refused = refl;
    shut = refl;
    why = inl (is, refl);
    calls = refl;
    refusals = refl;
  });
  keeps = unasked judges (asked_of s.opening event) (exchange_in event) (handler_at r setting heard);
}

first_of_two : (a b : Bool) → a && b ≡ false → b ≡ true → a ≡ false
first_of_two true b dead holds = let clash : true ≡ false = sym holds ∙ dead in absurd cc
first_of_two false b dead holds = refl

-- a session that runs and isn't live isn't open
pub not_live_early : (s : SessionState) → is_live s ≡ false → s.life ≡ Runs → is_open s.opening.phase ≡ false
not_live_early s dead life = first_of_two (is_open s.opening.phase) (runs s.life) dead (ap runs life)
