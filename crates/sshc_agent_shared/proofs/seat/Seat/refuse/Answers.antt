use Rattle.std.proofs.Common.{refl}
use Rattle.sshc_agent_shared.proofs.seat.Seat.refuse.Goals as goal

pub returns : goal.returns
returns g c = rw (← c.self.view_is, c.saturating_add-self-inside.ensures) refl
