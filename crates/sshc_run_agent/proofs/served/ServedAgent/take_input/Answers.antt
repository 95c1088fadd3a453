use Rattle.std.proofs.Common.{sym}
use Rattle.sshc_run_agent.proofs.ServedSteps.{input_event_made}
use Rattle.sshc_run_agent.proofs.served.ServedAgent.take_input.Goals as goal

pub returns-clause-ok : goal.returns-clause-ok
returns-clause-ok g c = rw (sym c.self.view_is) (input_event_made c.args.now c.args.conn c.args.input.now _ _ _ c.args.out.now.records _ c.requires.empty c.in_ok-take_one.ensures.ok)
