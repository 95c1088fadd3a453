use Rattle.std.proofs.Common.{arith}
use Rattle.sshc_run_script.specs.RunPromises.{RunAsked, run_asked}
use Rattle.sshc_run_script.specs.RunTurn.{run_machine}
use Rattle.sshc_run_script.proofs.KeptPromises.{none_promised, promised}
use Rattle.sshc_run_script.proofs.Promises.{by_events}
use Rattle.sshc_run_script.proofs.run.run_script.Goals as goal

pub returns-in-Ok : goal.returns-in-Ok
returns-in-Ok g c =
    let asked : RunAsked = run_asked c.args.host.now c.args.port c.args.known.now (g.V.Verifier.accepts c.args.verifier.now) c.args.config.now in
    let ends = by_events (run_machine asked.hosts asked.accepts asked.settings) asked.max_events _ _ c.run_on-answer.result (rw c.in-Ok.ensures.start at c.run_on-answer.ensures.run) in
    record { promises = promised c.run_laws.ensures.laws asked _ _ c.run_on-answer.result ends c.run_on-answer.ensures.counts; signer = c.run_on-answer.ensures.signer }

pub returns-in-Err : goal.returns-in-Err
returns-in-Err g c =
    let asked : RunAsked = run_asked c.args.host.now c.args.port c.args.known.now (g.V.Verifier.accepts c.args.verifier.now) c.args.config.now in
    record { promises = none_promised c.run_laws.ensures.laws asked _; signer = record { later = omega arith; fault = λ is. absurd cc } }
