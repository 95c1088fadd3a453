use Rattle.std.proofs.Common.{refl, sym, ◌∙◌, arith}
use Rattle.std.proofs.lemmas.Result.{err_from_is_err_and}
use Rattle.sshc_wire.specs.ContentsLaws.{append-nothing, no_writes, writes_on, writes_end}
use Rattle.sshc_run_script.proofs.Lines.{cut_line_at, next_line_at}
use Rattle.sshc_run_script.proofs.record_lines.write_lines.Goals as goal

pub loop-at-init : goal.loop-at-init
loop-at-init g c = record { wrote = sym (append-nothing _); same = refl; moving = refl; moved = no_writes _ _ }

pub loop-at-preserved : goal.loop-at-preserved
loop-at-preserved g c = record {
  wrote = next_line_at c.args.out.now.records c.loop-at.at _ _ _ (omega (arith, c.loop-at-test.true, c.len-at-end.ensures)) c.loop-at.invariant.wrote c.in_ok-write_line.ensures.whole;
  same = c.in_ok-write_line.ensures.cause.same (λ e. absurd cc) ∙ c.loop-at.invariant.same;
  moving = c.in_ok-write_line.ensures.moving ∙ c.loop-at.invariant.moving;
  moved = writes_on _ _ _ _ _ _ c.loop-at.invariant.moved c.in_ok-write_line.ensures.moved;
}

pub returns-in_err-write_line-clause-cut : goal.returns-in_err-write_line-clause-cut
returns-in_err-write_line-clause-cut g c =
    let p = err_from_is_err_and c.from_residual.result c.from_residual.ensures.1 in
    rw p.1 (cut_line_at c.args.out.now.records c.loop-at.at _ _ _ (omega (arith, c.loop-at-test.true, c.len-at-end.ensures)) c.loop-at.invariant.wrote c.in_err-write_line.ensures.cut)

pub returns-in_err-write_line-clause-writes : goal.returns-in_err-write_line-clause-writes
returns-in_err-write_line-clause-writes g c =
    let p = err_from_is_err_and c.from_residual.result c.from_residual.ensures.1 in rw p.1 (writes_end _ _ _ _ _ _ c.loop-at.invariant.moved c.in_err-write_line.ensures.writes)
