use Rattle.std.proofs.Common.{Some, ap, arith}
use Rattle.std.proofs.lemmas.Result.{err_from_is_err_and}
use Rattle.sshc_run_script.proofs.Keeping.{cut_kept, Kept}
use Rattle.sshc_run_script.proofs.Lines.{next_line_at}
use Rattle.sshc_run_script.proofs.kept_records.KeptRecordsRecordSink.put_records.Goals as goal

pub returns-in_err-keep-clause-cut : goal.returns-in_err-keep-clause-cut
returns-in_err-keep-clause-cut c =
    let p = err_from_is_err_and c.from_residual.result c.from_residual.ensures.1 in
    rw p.1 (cut_kept c.args.self.now c.loop-at.self c.keep.new.self c.args.records.now.records c.loop-at.at (omega (arith, c.loop-at-test.true, c.len-at-end.ensures)) c.loop-at.invariant c.in_err-keep.ensures.same)

pub loop-at-preserved : goal.loop-at-preserved
loop-at-preserved c =
    next_line_at c.args.records.now.records c.loop-at.at (Kept c.args.self.now) (Kept c.loop-at.self) (Kept c.keep.new.self) (omega (arith, c.loop-at-test.true, c.len-at-end.ensures)) c.loop-at.invariant (ap Some c.in_ok-keep.ensures.whole)
