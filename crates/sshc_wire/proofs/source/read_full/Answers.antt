use Rattle.std.proofs.Common.{arith, ◌∙◌}
use Rattle.sshc_wire.proofs.Counts.{some_moved}
use Rattle.sshc_wire.proofs.Pieces.{filled_more, within_buffer}
use Rattle.sshc_wire.proofs.source.read_full.Goals as goal

pub loop-filled-preserved : goal.loop-filled-preserved
loop-filled-preserved g c = record {
  within = within_buffer _ _ _ _ c.loop-filled.invariant.within c.in-Ok.ensures.bound;
  given = filled_more _ _ _ _ _ _ _ _ c.loop-filled.invariant.within (omega (arith, c.in-Ok.ensures.bound)) c.loop-filled.invariant.given c.in-Ok.ensures.bytes;
  same = c.in-Ok.ensures.cause.same (λ e. absurd cc) ∙ c.loop-filled.invariant.same;
  moved = some_moved _ _ _ _ c.in-Ok.n-test.1 c.in-Ok.ensures.empty ∙ c.loop-filled.invariant.moved;
  counted = omega (arith, c.loop-filled.invariant.counted, c.read.ensures.counted);
  apart = c.read.ensures.apart ∙ c.loop-filled.invariant.apart;
}
