use Rattle.std.proofs.Common.{rules}
use Rattle.sshc_wire.proofs.ReadingLemmas.{known_more}
use Rattle.sshc_wire.proofs.reading.part.known.Goals as goal

pub loop-name-preserved : goal.loop-name-preserved
loop-name-preserved c = known_more c.args.left c.loop-name.methods c.add_method.new.methods c.loop-name.name-iterator c.next.new.self c.in-Some.name.now c.loop-name.invariant (search rules) c.in_ok-add_method.ensures
