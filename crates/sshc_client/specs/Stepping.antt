-- What a step of a session does if the handler keeps its default bodies, with its gate's verdict on host keys: before
-- the session is open the opening's step is done, in an open session the event's row is followed, and a session that
-- has ended returns `Closed`. In the code the opening is a part of the session all along.
use Rattle.std.specs.Prelude.{◌≡◌, ◌≤◌, ◌⊎◌, true, false}
use Rattle.sshc_auth_event.specs.declared.event.Event.{Event}
use Rattle.sshc_auth.specs.declared.ended.Ended.TheVariants.{Disconnected}
use Rattle.sshc_auth.specs.declared.error.Error.{Error}
use Rattle.sshc_auth.specs.declared.error.Error.TheVariants.{NoMemory}
use Rattle.sshc_auth.specs.declared.step.Step.{Step}
use Rattle.sshc_auth.specs.declared.step.Step.TheVariants as steps
use Rattle.sshc_auth.specs.Stepping.{GateAnswers}
use Rattle.sshc_client_packets.specs.HostKeyProof.{Accepts}
use Rattle.sshc_client_table.specs.declared.life.Life.TheVariants.{Left, Over}
use Rattle.sshc_client_table.specs.SessionState.{SessionState, is_live, opens_later, runs}
use Rattle.sshc_client_table.specs.Moves.{Fronts, Stops, after, done}
use Rattle.sshc_client_table.specs.SessionRow.{SessionRow, ends, goes, refuses}
use Rattle.sshc_client_table.specs.SessionTable.{session_row}
use Rattle.sshc_client_state.specs.OpeningStep.{Lent, StepsOpening}
use Rattle.sshc_client_rows.specs.Follows.{all_moves, default_opinions}

-- ---- in an open session

-- the row was followed; if it doesn't continue, the session is over
abbrev pub StepsRow : {E : Type 0} → (Error → E) → SessionRow → SessionState → SessionState → Step E → Type 0
StepsRow told_as row old new steps.Went = (row.next ≡ goes) × (new ≡ done (all_moves row) old)
StepsRow told_as row old new (steps.Ended e) = (row.next ≡ ends e) × (new ≡ after Stops (done (all_moves row) old))
StepsRow told_as row old new (steps.Refused x) =
    (e : Error) × (mid : SessionState) × (x ≡ told_as e) × (new ≡ after Stops mid)
    × (((e ≡ NoMemory) × Fronts (all_moves row) old mid) ⊎ ((row.next ≡ refuses e) × (mid ≡ done (all_moves row) old)))
StepsRow told_as row old new steps.Opened = ⊥
StepsRow told_as row old new steps.Closed = ⊥

-- ---- the step

pub record SessionStepped {E : Type 0} (gate : GateAnswers E) (accepts : Accepts) (event : Event) (was is : Lent) (result : Step E) : Type 0 where
  -- a session that is over returns `Closed`, and doesn't change
  pub closed : was.session.life ≡ Over → (result ≡ steps.Closed) × (is.session ≡ was.session)
  -- a session that the user left is over with the next step
  pub left : was.session.life ≡ Left → (result ≡ steps.Ended Disconnected) × (is.session ≡ after Stops (was.session))
  -- a session that is over or was left calls neither signer nor handler: nothing else that is lent changes
  pub silent : runs (was.session.life) ≡ false → is ≡ record was { session = is.session }
  -- before the session is open
  pub opening : opens_later (was.session) ≡ true → StepsOpening gate event was is result
  -- the row of the table; neither signer nor gate is asked
  pub row : is_live (was.session) ≡ true →
      StepsRow gate.told_as (session_row accepts (default_opinions (was.session)) (was.session) event) was.session is.session result
      × (is.calls ≡ was.calls)
  -- the signer's count of refusals never falls
  pub signer : was.signer_refusals ≤ is.signer_refusals
