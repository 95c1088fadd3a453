use Rattle.std.proofs.Common.{◌≡◌}
use Rattle.sshc_client.proofs.HandlerLemmas.{let_go_call}
use Rattle.sshc_client.proofs.session.Session.report_and_grant.Goals as goal

pub returns-in-Ok : goal.returns-in-Ok
returns-in-Ok g c = record { row = let_go_call _ _ _ _ _ _ _ _ _ _ _ c.went.ensures c.in-Ok.ensures c.say_and_grant.ensures }
