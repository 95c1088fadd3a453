use Rattle.sshc_handle_state.proofs.TakingLemmas.{taken}
use Rattle.sshc_handle_state.proofs.state.HandleState.take.Goals as goal

pub returns : goal.returns
returns g c =
    rw (← c.self.view_is)
    (taken _ _ _ _ _ _ _ _ c.step-step.new.self _ _ _ _ c.step-step.result _ _ _ _ _ _ c.goes_on.ensures c.step-step.ensures.steps c.step-step.ensures.defaults c.bind-bound.ensures c.deal-dealt.ensures c.both.ensures
    c.turn_by.ensures c.close.ensures)
