use Rattle.std.proofs.lemmas.Result.{err_from_is_err_and}
use Rattle.sshc_hosts_words.proofs.KeyLines.{cut_line}
use Rattle.sshc_hosts_words.proofs.key_lines.write_key_lines.Goals as goal

pub returns-in_err-write_key_line-clause-cut : goal.returns-in_err-write_key_line-clause-cut
returns-in_err-write_key_line-clause-cut g c =
    let p = err_from_is_err_and c.from_residual.result c.from_residual.ensures.1 in
    rw p.1 (cut_line _ _ _ _ _ _ c.loop-known-test.true c.known-item.is c.loop-known.invariant.0 c.in_err-write_key_line.ensures.cut)
