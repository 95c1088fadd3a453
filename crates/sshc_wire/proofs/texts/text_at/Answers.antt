use Rattle.sshc_wire.proofs.PackingLemmas.{place_order, place_within, text_there}
use Rattle.sshc_wire.proofs.texts.text_at.Goals as goal

pub part-requires-clause-order : goal.part-requires-clause-order
part-requires-clause-order c = place_order c.args.bytes.now c.args.places.now c.args.first c.args.at c.in-Some.place c.requires.packed c.in-Some.ensures

pub part-requires-clause-within : goal.part-requires-clause-within
part-requires-clause-within c = place_within c.args.bytes.now c.args.places.now c.args.first c.args.at c.in-Some.place c.requires.packed c.in-Some.ensures

pub returns-in-Some : goal.returns-in-Some
returns-in-Some c = text_there c.args.bytes.now c.args.places.now c.args.first c.args.at c.in-Some.place c.part.result.now c.in-Some.ensures c.part.ensures
