use Rattle.std.proofs.Common.{◌≡◌, true, false, ◌∙◌}
use Rattle.sshc_wire.specs.OutgoingLaws.{grows_on}
use Rattle.sshc_mux.proofs.AddingLemmas.{after_error, grew, same_muted}
use Rattle.sshc_mux.proofs.TableLemmas.{said_more, none_more}
use Rattle.sshc_mux.proofs.table.sending.push_flushed.Goals as goal

pub loop-slot-preserved : goal.loop-slot-preserved
loop-slot-preserved c = record {
  output = said_more _ _ _ _ _ _ c.loop-slot-test.true c.slot-item.is c.in_ok-push_slot.ensures.output c.loop-slot.invariant.output;
  some = grew _ _ _ _ c.loop-slot.invariant.some c.in_ok-push_slot.ensures.output;
  same = same_muted _ _ _ c.in_ok-push_slot.ensures.output ∙ c.loop-slot.invariant.same;
  none = λ nothing. (none_more _ _ _ c.loop-slot-test.true c.slot-item.is (c.loop-slot.invariant.none nothing)).1;
}

pub returns-in_err-push_slot-clause-succeeds : goal.returns-in_err-push_slot-clause-succeeds
returns-in_err-push_slot-clause-succeeds c =
    λ nothing. let no : false ≡ true = c.in_err-push_slot.ensures.succeeds (none_more _ _ _ c.loop-slot-test.true c.slot-item.is (c.loop-slot.invariant.none nothing)).0 in absurd (cc)

pub returns-in_err-push_slot-clause-some : goal.returns-in_err-push_slot-clause-some
returns-in_err-push_slot-clause-some c = after_error _ _ (grows_on _ _ _ c.loop-slot.invariant.some c.in_err-push_slot.ensures.some)
