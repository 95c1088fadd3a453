use Rattle.std.proofs.Common.{◌≡◌, ℕ, suc, ◌+◌, ◌-◌, length, ap, arith}
use Rattle.sshc_mux.specs.ChannelTable.Opens.{above, free_from}
use Rattle.sshc_mux.specs.Places.{present}
use Rattle.sshc_mux.proofs.NumberLemmas.{next_found, next_tried, next_full}
use Rattle.sshc_mux.proofs.table.opens.next_number.Goals as goal

pub returns-in_default-clause-new : goal.returns-in_default-clause-new
returns-in_default-clause-new c = record { next = next_found _ _ _ _ _ c.requires.sized c.loop-tried.invariant c.in_default.ensures; free = c.in_default.ensures }

pub loop-tried-preserved : goal.loop-tried-preserved
loop-tried-preserved c = next_tried _ _ _ _ _ _ c.requires.sized (omega arith) c.loop-tried.invariant c.in-Some.ensures

pub returns-in-None-clause-new : goal.returns-in-None-clause-new
returns-in-None-clause-new c = record { next = next_found _ _ _ _ _ c.requires.sized c.loop-tried.invariant c.in-None.ensures; free = c.in-None.ensures }

pub returns-in-Some-place-clause-full : goal.returns-in-Some-place-clause-full
returns-in-Some-place-clause-full c = next_full _ _ _ _ _ _ c.requires.sized (omega (arith, c.loop-tried-test.false, c.loop-tried.auto._tried-end)) c.loop-tried.invariant c.in-Some-place.ensures

pub loop-tried-init : goal.loop-tried-init
loop-tried-init c =
    let tries : length c.args.index.now.entries + 1 ≡ suc (length c.args.index.now.entries - 0) = omega arith in
    ap (λ (k : ℕ). free_from k (above c.args.last) (present c.args.slots.now)) tries
