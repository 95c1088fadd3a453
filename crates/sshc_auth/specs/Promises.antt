-- What a call of the opening promises, in one record each: `Applied` of `apply`, `Stepped` of `step`.
use Rattle.std.specs.Prelude.{◌≡◌, false}
use Rattle.sshc_auth.specs.declared.error.Error.{Error}
use Rattle.sshc_auth_event.specs.declared.event.Event.{Event}
use Rattle.sshc_auth.specs.declared.step.Step.{Step}
use Rattle.sshc_auth.specs.declared.step.Told.{Told}
use Rattle.sshc_auth.specs.Causes.{HasCause, HasGateCause}
use Rattle.sshc_auth.specs.OpeningTable.{asked_of, open_row}
use Rattle.sshc_auth.specs.Passwords.{KeepsPasswords}
use Rattle.sshc_auth.specs.Row.{Steps}
use Rattle.sshc_auth.specs.SessionWords.{Continues, IsReported, KeepsTo, reported}
use Rattle.sshc_auth.specs.Stepping.{Lent, LentGate, GateAnswers, exchange_in, span_of, gained, StaysClosed, StepsBy, SignerGrows, GateKeeps}

-- the rest of an event's row, with what the gate returned
pub record Applied (told : Told) (event : Event) (was is : Lent) (result : Step Error) : Type 0 where
  pub closed : StaysClosed was is result
  -- the row of the table
  pub row : was.opening.closed ≡ false → Steps (open_row was.opening event told) (gained was is) (span_of was is) result
  -- a refusal's cause, by the opening and the event alone; `SignerFault` only if the signer's count of refusals rose
  pub cause : HasCause told event was is result
  pub signer : SignerGrows was.calls is.calls was.refusals is.refusals

-- a step with a gate, by the table; the gate's results are those that its relations allow
pub record ByTable {E : Type 0} (gate : GateAnswers E) (event : Event) (was is : LentGate) (result : Step E) : Type 0 where
  pub closed : StaysClosed was.rest is.rest result
  -- the row of the table, with what the gate returned
  pub row : was.rest.opening.closed ≡ false → StepsBy gate event was.rest is.rest result
  -- a refusal's cause, by the opening and the event alone, `SignerFault` only if the signer's count of refusals rose;
  -- or the gate's refusal
  pub cause : HasGateCause gate event was is result
  pub signer : SignerGrows was.rest.calls is.rest.calls was.rest.refusals is.rest.refusals
  pub keeps : GateKeeps was.refusals is.refusals was.setting is.setting

-- the same, and what each step satisfies, stated apart from the table
pub record Stepped {E : Type 0} (gate : GateAnswers E) (event : Event) (was is : LentGate) (result : Step E) : Type 0 where
  pub closed : StaysClosed was.rest is.rest result
  -- the row of the table, with what the gate returned
  pub row : was.rest.opening.closed ≡ false → StepsBy gate event was.rest is.rest result
  -- a refusal's cause, by the opening and the event alone, `SignerFault` only if the signer's count of refusals rose;
  -- or the gate's refusal
  pub cause : HasGateCause gate event was is result
  pub signer : SignerGrows was.rest.calls is.rest.calls was.rest.refusals is.rest.refusals
  pub keeps : GateKeeps was.refusals is.refusals was.setting is.setting
  -- the first exchange, the session id, what is signed, and whose request is stored
  pub laws : KeepsTo gate event was.rest is.rest result
  -- how often a password is written
  pub passwords : KeepsPasswords event was.rest is.rest
  -- where the session continues, a record says what the gate was notified of
  pub reports : Continues result → IsReported (reported (asked_of was.rest.opening event) (exchange_in event)) was.rest is.rest
