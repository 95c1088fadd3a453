use Rattle.sshc_handle_state.proofs.PickingLemmas.{picks_ruled}
use Rattle.sshc_handle_state.proofs.state.HandleState.pick.Goals as goal

pub returns-in-Some : goal.returns-in-Some
returns-in-Some g c = picks_ruled _ _ _ _ _ _ c.begin.ensures c.in-Some.ensures
