use Rattle.std.proofs.Common.{◌≡◌}
use Rattle.sshc_client.proofs.HandlerLemmas.{let_go_call}
use Rattle.sshc_client.proofs.session.Session.announce.Goals as goal

pub returns-in-Ok : goal.returns-in-Ok
returns-in-Ok g c = let_go_call _ _ _ _ _ _ _ _ _ _ _ c.went.ensures (rw c.into_vec.ensures.same at c.in-Ok.ensures) (rw c.requires at c.say_announced.ensures)
