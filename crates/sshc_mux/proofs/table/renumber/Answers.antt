use Rattle.std.proofs.Common.{◌≡◌, length, subst, arith, ℕ}
use Rattle.sshc_mux.proofs.IndexLemmas.{Noted, noted_empty, noted_put, all_noted}
use Rattle.sshc_mux.proofs.table.renumber.Goals as goal
use Rattle.sshc_mux.proofs.table.renumber.Goals.{in-Some, in_default}

pub loop-at-preserved : goal.loop-at-preserved
loop-at-preserved c = elim c.match-slots-at.branch [
  | in-Some w ↦ rw w.index-is
      (noted_put c.loop-at.index w.insert.new.self _ _ _ _ _ w.insert.result c.requires.apart c.loop-at-test.true c.index-slots-at.is w.in-Some.is w.number.ensures w.insert.ensures.updates w.insert.ensures.old w.insert.ensures.len w.insert.ensures.absent c.loop-at.invariant)
  | in_default w ↦ rw w.index-is (noted_empty _ _ _ _ c.index-slots-at.is w.in_default.is c.loop-at.invariant)
]

pub returns : goal.returns
returns c =
    let done : c.loop-at.at ≡ length c.args.slots.now = omega arith in
    all_noted _ _ c.requires.apart (subst (λ (k : ℕ). Noted c.loop-at.index.entries c.args.slots.now k) done c.loop-at.invariant)
