use Rattle.std.proofs.lemmas.Result.{err_from_is_err_and}
use Rattle.sshc_forward_core.proofs.LineLemmas.{cut_line}
use Rattle.sshc_forward_core.proofs.output_lines.write_lines.Goals as goal

pub returns-in_err-write_line-clause-cut : goal.returns-in_err-write_line-clause-cut
returns-in_err-write_line-clause-cut g c =
    let p = err_from_is_err_and c.from_residual.result c.from_residual.ensures.1 in
    rw p.1 (cut_line c.args.outputs.now c.loop-output.output-index c.output-item.result _ _ _ c.loop-output-test.true c.output-item.is c.loop-output.invariant.wrote c.in_err-write_line.ensures.cut)
