use Rattle.std.proofs.Common.{[], refl}
use Rattle.std.proofs.Math.Seq.{drop-length}
use Rattle.sshc_run_script.specs.PausedRuns.{nothing_yet}
use Rattle.sshc_run_script.specs.RunPromises.{run_asked}
use Rattle.sshc_sample_snippets.proofs.paused_runs.run_one_by_one.Goals as goal

pub returns-in-Ok : goal.returns-in-Ok
returns-in-Ok g c = record {
  promises = c.hand_over-answer.ensures.handed (run_asked c.args.host.now c.args.port c.args.known.now (g.V.Verifier.accepts c.args.verifier.now) c.args.config.now) nothing_yet refl (c.in-Ok.ensures.run (g.V.Verifier.accepts c.args.verifier.now));
}

pub returns-in-Err : goal.returns-in-Err
returns-in-Err g c = record {
  promises = ([], c.args.events.now, [], refl, rw (drop-length (g.G.LocalSigner.calls c.args.signer.now), drop-length c.args.lines.now.items) (c.in-Err.ensures.none (g.V.Verifier.accepts c.args.verifier.now)));
}
