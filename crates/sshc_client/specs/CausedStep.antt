-- Why a step of an open session refuses an event or ends the session: by its state and the event alone, stated apart from
-- the table of rows (RFC 4253, sections 7 and 11; RFC 4254), or by what the handler does.
use Rattle.std.specs.Prelude.{◌≡◌, ◌⊎◌}
use Rattle.sshc_wire.specs.Faults.{Rose}
use Rattle.sshc_auth_event.specs.declared.event.Event.{Event}
use Rattle.sshc_auth.specs.declared.ended.Ended.TheVariants.{Disconnected}
use Rattle.sshc_auth.specs.declared.error.Error.{Error}
use Rattle.sshc_auth.specs.declared.step.Step.{Step}
use Rattle.sshc_auth.specs.declared.step.Step.TheVariants as steps
use Rattle.sshc_auth.specs.Causes.{IsEndCause}
use Rattle.sshc_client_table.specs.OpenCauses.{IsOpenCause}
use Rattle.sshc_client_table.specs.SessionState.{SessionState}
use Rattle.sshc_client.specs.Handling.{HandlerAt}

-- it ends as the event ends a session, or since a handler with a body of its own left the session that it was lent; it
-- refuses for an error's cause, or since a handler with a body of its own refused
abbrev pub IsCausedOpen : {E : Type 0} → Type 0 → (Error → E) → HandlerAt → HandlerAt → SessionState → Event → Step E → Type 0
IsCausedOpen defaults told_as was is s event steps.Went = Unit {0}
IsCausedOpen defaults told_as was is s event (steps.Ended e) = IsEndCause s.opening event e ⊎ ((e ≡ Disconnected) × (defaults → ⊥))
IsCausedOpen defaults told_as was is s event (steps.Refused x) =
    ((e : Error) × (x ≡ told_as e) × IsOpenCause s event e) ⊎ (Rose was.refusals is.refusals × (defaults → ⊥))
IsCausedOpen defaults told_as was is s event steps.Opened = ⊥
IsCausedOpen defaults told_as was is s event steps.Closed = ⊥
