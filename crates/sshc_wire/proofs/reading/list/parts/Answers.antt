use Rattle.std.proofs.Common.{◌+◌, ◌-◌, List, ap, sym, ◌∙◌}
use Rattle.sshc_wire.specs.Counted.{times_at}
use Rattle.sshc_wire.proofs.ReadingLemmas.{behind, took}
use Rattle.sshc_wire.proofs.reading.list.parts.Goals as goal

pub loop-taken-preserved : goal.loop-taken-preserved
loop-taken-preserved g c =
    ap (λ (ps : List _). behind ps (times_at (c.args.count - (c.loop-taken._taken + 1)) g.T.Part.at c.read.new.c)) c.in_ok-push.ensures.ok
    ∙ sym (took g.T.Part.at c.args.count c.loop-taken._taken c.loop-taken.parts c.loop-taken.c c.read.new.c c.in_ok-part.part c.loop-taken-test.true c.in_ok-part.ensures) ∙ c.loop-taken.invariant
