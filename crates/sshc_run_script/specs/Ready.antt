-- A session between two events of a run.
use Rattle.std.specs.Prelude.{◌≡◌, false, []}
use Rattle.sshc_auth.specs.declared.step.Step.{Step}
use Rattle.sshc_auth.specs.declared.step.Step.TheVariants as steps
use Rattle.sshc_client_table.specs.declared.life.Life.TheVariants.{Runs}
use Rattle.sshc_client_table.specs.SessionState.{SessionState, is_open}

-- it runs, and its records were taken; before it is open its opening isn't closed
pub record IsReady (s : SessionState) : Type 0 where
  pub runs : s.life ≡ Runs
  pub taken : s.records ≡ []
  pub unclosed : is_open s.opening.phase ≡ false → s.opening.closed ≡ false

-- the same after a step from which the run continues
abbrev pub IsReadyAfter : {E : Type 0} → Step E → SessionState → Type 0
IsReadyAfter steps.Went s = IsReady s
IsReadyAfter steps.Opened s = IsReady s
IsReadyAfter step s = Unit {0}
