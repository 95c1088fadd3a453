use Rattle.std.proofs.lemmas.Result.{err_from_is_err_and}
use Rattle.sshc_hosts.specs.Judgement.{keys_seen}
use Rattle.sshc_hosts.proofs.JudgementLemmas.{line_failed, line_read}
use Rattle.sshc_hosts.proofs.judgement.read_lines.Goals as goal

pub loop-line-preserved : goal.loop-line-preserved
loop-line-preserved c =
    line_read c.args.lines.now c.loop-line.line-index _ (keys_seen c.loop-line.keys) _ c.loop-line-test.true c.in_ok-add_line.ensures c.loop-line.invariant

pub returns-in_err-add_line : goal.returns-in_err-add_line
returns-in_err-add_line c =
    let p = err_from_is_err_and c.from_residual.result c.from_residual.ensures.1 in
    rw (p.1, p.2) (line_failed c.in_err-add_line.field-0.0 c.args.lines.now c.loop-line.line-index _ (keys_seen c.loop-line.keys) c.loop-line-test.true c.in_err-add_line.ensures c.loop-line.invariant)
