-- What the handler is asked before the session is open, and the opening's step with its verdict on the host key.
use Rattle.std.specs.Prelude.{◌≡◌, ◌⊎◌, Bool, true, false, ◌&&◌, Option, Result, Ok, Err}
use Rattle.sshc_wire.specs.Faults.{Rose}
use Rattle.sshc_key.specs.declared.identity.PublicKeyOrCertificate.{PublicKeyOrCertificate}
use Rattle.sshc_transport.specs.declared.exchange.ExchangeResult.{ExchangeResult}
use Rattle.sshc_auth_event.specs.declared.event.Event.{Event}
use Rattle.sshc_auth.specs.declared.error.Error.{Error}
use Rattle.sshc_auth.specs.declared.step.Asks.{Asks}
use Rattle.sshc_auth.specs.declared.step.Asks.TheVariants as asking
use Rattle.sshc_auth.specs.declared.step.Step.{Step}
use Rattle.sshc_auth.specs.Stepping.{GateAnswers, gate_answers}
use Rattle.sshc_client_table.specs.SessionState.{SessionState}
use Rattle.sshc_client_table.specs.Grown.{Grown}
use Rattle.sshc_client_state.specs.OpeningStep.{Lent, StepsLent, goes_on}
use Rattle.sshc_client.specs.Handling.{HandlerAt}
use Rattle.sshc_client.specs.HandledStep.{AddsNothing, EndsBy, HearsAsked, IsCall, has_left}

-- the verdict
abbrev pub Says : {E : Type 0} → Bool → PublicKeyOrCertificate → Result Bool E → Type 0
Says accepts key answer = answer ≡ Ok accepts

-- a gate that returns the verdict on the host key, and does nothing with exchanges and banners
abbrev pub verdict_gate : {E : Type 0} → (Error → E) → Bool → GateAnswers E
verdict_gate told_as accepts = gate_answers told_as (Says accepts) (λ secret names. AddsNothing) (λ banner. AddsNothing)

-- the verdict is the handler's if it was asked, and no if it wasn't
abbrev pub IsVerdict : {E : Type 0} → (PublicKeyOrCertificate → Result Bool E → Type 0) → Asks → Bool → Type 0
IsVerdict judges (asking.HostKey key) accepts = judges key (Ok accepts)
IsVerdict judges asks accepts = accepts ≡ false

-- the handler refused the host key, before it was lent the session; or it refused for another reason, from a call that
-- the row asks, by a body of its own
abbrev pub RefusesKey : {E : Type 0} → (PublicKeyOrCertificate → Result Bool E → Type 0) → Asks → E → Type 0
RefusesKey judges (asking.HostKey key) e = judges key (Err e)
RefusesKey judges asks e = ⊥

abbrev pub Refuses : {E : Type 0} → Type 0 → (PublicKeyOrCertificate → Result Bool E → Type 0) → Asks → SessionState → SessionState → E → Type 0
Refuses defaults judges asks old new e = (RefusesKey judges asks e × (new ≡ old)) ⊎ (IsCall asks × (defaults → ⊥))

abbrev pub Said : {E : Type 0} → Type 0 → (PublicKeyOrCertificate → Result Bool E → Type 0) → Asks → HandlerAt → HandlerAt → SessionState → SessionState → Result Bool E → Type 0
Said defaults judges asks was is old new (Ok accepts) = IsVerdict judges asks accepts × (defaults → new ≡ old)
Said defaults judges asks was is old new (Err e) = Refuses defaults judges asks old new e × Rose was.refusals is.refusals

-- the handler was called as the row asks
pub record AsksHandler {E : Type 0} (defaults : Type 0) (judges : PublicKeyOrCertificate → Result Bool E → Type 0) (asks : Asks) (exchange : Option ExchangeResult) (was is : HandlerAt) (old new : SessionState) (result : Result Bool E) : Type 0 where
  pub said : Said defaults judges asks was is old new result
  pub grown : Grown old new
  -- where the row makes no call, nobody is lent the session
  pub unlent : (IsCall asks → ⊥) → new ≡ old
  -- it hears what the row asks, with the values of the event
  pub keeps : HearsAsked judges asks exchange was is

-- the opening's step, and the end of a session that the user left meanwhile
pub record StepsBefore {E : Type 0} (gate : GateAnswers E) (event : Event) (was is : Lent) (result : Step E) : Type 0 where
  pub last : SessionState
  pub step : Step E
  pub stepped : StepsLent gate event was (record is { session = last }) step
  pub ends : EndsBy (goes_on step && has_left last.life) last (is.session) step result
