use Rattle.std.proofs.Common.{◌≡◌}
use Rattle.sshc_client.proofs.AskedLemmas.{ended_before}
use Rattle.sshc_client.proofs.session.Session.step_asked.Goals as goal

pub returns : goal.returns
returns g c = rw (← c.self.view_is) (ended_before _ _ _ _ _ _ _ _ _ _ _ _ _ _ _ c.step_opening-step.ensures c.end_left.ensures)
