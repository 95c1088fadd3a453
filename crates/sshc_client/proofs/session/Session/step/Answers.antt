use Rattle.std.proofs.Common.{rules, ◌≡◌, true, ℕ, ◌+◌, ◌-◌, ◌*◌, ◌<◌, ◌≤◌, length, ◌/◌, ◌%◌, Bool, false, nat_eq, nat_lt, List, [], ◌∷◌, ◌++◌, slice_index_or, slice_set, bit_and, bit_or, Fits, w8, w32, w64, Bor, MutBor}
use Rattle.sshc_client_table.specs.SessionState.{is_live}
use Rattle.sshc_client_table.specs.SessionTable.{session_row}
use Rattle.sshc_client_state.specs.OpeningStep.{lent_session}
use Rattle.sshc_client.specs.Handling.{handler_at}
use Rattle.sshc_client.specs.HandledRow.{FollowsWith}
use Rattle.sshc_client.specs.HandledStep.{EndsRow, SessionSteps, StepsOpen, handler_gate}
use Rattle.sshc_client.specs.Stepping.{SessionStepped}
use Rattle.sshc_client.proofs.StepLemmas.{plain_step}
use Rattle.sshc_client.proofs.session.Session.step.Goals as goal

pub returns-clause-defaults : goal.returns-clause-defaults
returns-clause-defaults g c = λ plain. plain_step _ _ _ _ _ _ _ _ _ _ _ _ _ _ _ plain c.step_with.ensures
