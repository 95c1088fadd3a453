use Rattle.std.proofs.Common.{arith, ◌≡◌, ◌<◌, ◌-◌, length, take, drop, sym, ◌∙◌, length-take, length-drop}
use Rattle.std.proofs.lemmas.List.{take-append-drop}
use Rattle.sshc_wire.proofs.Counts.{some_moved}
use Rattle.sshc_wire.proofs.Pieces.{written_more, within_piece}
use Rattle.sshc_wire.proofs.sink.write_whole.Goals as goal

pub loop-written-preserved : goal.loop-written-preserved
loop-written-preserved g c = record {
  within = within_piece _ _ _ c.loop-written.invariant.within c.in-Ok.ensures.bound;
  wrote = written_more _ _ _ _ _ _ c.loop-written.invariant.within c.in-Ok.ensures.bound c.loop-written.invariant.wrote c.in-Ok.ensures.bytes;
  same = c.in-Ok.ensures.cause.same (λ e. absurd cc) ∙ c.loop-written.invariant.same;
  moved =
      let some : 0 < length (take (length c.args.piece.now - c.loop-written.written) (drop c.loop-written.written c.args.piece.now)) = grind (arith, length-take, length-drop) in
      some_moved c.in-Ok.n _ _ _ (λ e. absurd (let more = c.in-Ok.ensures.moves some in omega (arith, e, more))) c.in-Ok.ensures.empty ∙ c.loop-written.invariant.moved;
  counted =
      let some : 0 < length (take (length c.args.piece.now - c.loop-written.written) (drop c.loop-written.written c.args.piece.now)) = grind (arith, length-take, length-drop) in
      omega (arith, c.loop-written.invariant.counted, c.write.ensures.counted, c.in-Ok.ensures.moves some);
  apart = c.write.ensures.apart ∙ c.loop-written.invariant.apart;
}

pub returns-in-Err-clause-cut : goal.returns-in-Err-clause-cut
returns-in-Err-clause-cut g c = (
  take c.loop-written.written c.args.piece.now,
  drop c.loop-written.written c.args.piece.now,
  sym (take-append-drop c.loop-written.written c.args.piece.now),
  c.in-Err.ensures.none ∙ c.loop-written.invariant.wrote,
)

pub returns-in-Err-clause-writes : goal.returns-in-Err-clause-writes
returns-in-Err-clause-writes g c = (
  take c.loop-written.written c.args.piece.now,
  c.in-Err.ensures.none ∙ c.loop-written.invariant.wrote,
  (let size : length (take c.loop-written.written c.args.piece.now) ≡ c.loop-written.written = grind (arith, length-take, c.loop-written.invariant.within) in
      omega (arith, size, c.loop-written.invariant.counted, c.write.ensures.counted)),
)
