use Rattle.std.proofs.Common.{rules, ◌≡◌, true}
use Rattle.sshc_client_table.specs.SessionState.{is_live}
use Rattle.sshc_client.specs.HandledStep.{handler_gate}
use Rattle.sshc_client.proofs.StepLemmas.{live_steps}
use Rattle.sshc_client.proofs.session.Session.step_with.Goals as goal

pub returns-then-is_live : goal.returns-then-is_live
returns-then-is_live g c =
    let live : is_live c.args.self.now ≡ true = search rules in
    live_steps _ (handler_gate g.H.Handler.told_as (g.H.Handler.judges c.args.handler.now)) _ _ _ _ _ _ _ _ _ _ _ live c.step_open.ensures.steps
