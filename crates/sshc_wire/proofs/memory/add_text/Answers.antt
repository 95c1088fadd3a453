use Rattle.std.proofs.Common.{sym, arith, rules}
use Rattle.sshc_wire.proofs.Filed.{set_text}
use Rattle.sshc_wire.proofs.memory.add_text.Goals as goal

pub returns-then-eq-clause-ok : goal.returns-then-eq-clause-ok
returns-then-eq-clause-ok c =
    rw (← c.loop-at.invariant.same)
    (set_text c.loop-at.files.items c.loop-at.at c.args.path.now c.args.text.now c.index.result.now c.index-then-eq.result.now c.index_mut.result.now c.in_ok-files.field-0 (omega arith)
    c.index.ensures c.index-then-eq.ensures c.index_mut.ensures.value (rw c.as_str.ensures.same at (sym c.if-eq.ensures)) (search rules) c.loop-at.invariant.behind)
