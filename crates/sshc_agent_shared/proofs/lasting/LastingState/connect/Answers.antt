use Rattle.std.proofs.Common.{ap}
use Rattle.sshc_agent_shared.specs.Generations.{LastingView}
use Rattle.sshc_agent_shared.proofs.LastingSteps.{seat_refused}
use Rattle.sshc_agent_shared.proofs.lasting.LastingState.connect.Goals as goal

pub returns-in-Err-clause-refused : goal.returns-in-Err-clause-refused
returns-in-Err-clause-refused g c = seat_refused c.args.self.now c.self.inside.generation c.in-Err.refused (ap (λ (s : LastingView). s.generation) c.self.view_is) c.in-Err.ensures.full
