use Rattle.sshc_run_agent.proofs.Steps.{input_cut, on_error}
use Rattle.sshc_run_agent.proofs.step.step_input.Goals as goal

pub returns-clause-memory : goal.returns-clause-memory
returns-clause-memory g c = on_error c.record_of.result _ (input_cut c.args.now c.args.conn c.args.input.now c.args.core.now c.step-output.new.self _ c.step-output.result c.step-output.ensures.row)
