use Rattle.std.proofs.Common.{rules, ◌≡◌}
use Rattle.sshc_client_state.proofs.OpeningLemmas.{steps_lent}
use Rattle.sshc_client_state.proofs.connection.Connection.step_opening.Goals as goal

pub returns-then-not-goes_on : goal.returns-then-not-goes_on
returns-then-not-goes_on g c =
    steps_lent _ _ _ _ _ _ _ _ _ _ _ _ _ _ _ _ _ c.step-step.ensures.stepped (search (rules)) (search (rules)) (search (rules)) (search (rules))

pub returns-else-not-goes_on : goal.returns-else-not-goes_on
returns-else-not-goes_on g c =
    steps_lent _ _ _ _ _ _ _ _ _ _ _ _ _ _ _ _ _ c.step-step.ensures.stepped (search (rules)) (search (rules)) (search (rules)) (search (rules))
