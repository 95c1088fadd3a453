use Rattle.std.proofs.Common.{arith}
use Rattle.sshc_mux.proofs.IndexLemmas.{one_most}
use Rattle.sshc_mux.proofs.TableLemmas.{flushed_more, counted_more, one_byte}
use Rattle.sshc_mux.proofs.table.sending.count_flushed.Goals as goal

pub loop-slot-preserved : goal.loop-slot-preserved
loop-slot-preserved c = record {
  flushed = flushed_more _ _ _ _ _ c.loop-slot-test.true c.loop-slot.invariant.flushed c.count_slot.ensures.flushed;
  waiting = counted_more _ _ _ _ _ _ _ _ c.loop-slot-test.true c.loop-slot.invariant.flushed c.count_slot.ensures.flushed c.count_slot.ensures.waits c.loop-slot.invariant.waiting
      (omega (arith, c.from-waiting.ensures, one_byte c.count_slot.result));
  most = omega (arith, c.loop-slot.invariant.most, c.from-waiting.ensures, one_byte c.count_slot.result, one_most c.count_slot.result);
}
