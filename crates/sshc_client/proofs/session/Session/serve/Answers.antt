use Rattle.std.proofs.Common.{◌≡◌}
use Rattle.sshc_client.proofs.HandlerLemmas.{let_go_open}
use Rattle.sshc_client.proofs.session.Session.serve.Goals as goal

pub returns-in-Ok : goal.returns-in-Ok
returns-in-Ok g c = record { row = let_go_open _ _ _ _ _ _ _ _ _ _ _ _ c.went.ensures c.requires c.in-Ok.ensures c.settle.ensures }
