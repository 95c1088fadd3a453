use Rattle.std.proofs.Common.{◌≡◌, refl, slice_get, Some, sym, ◌∙◌}
use Rattle.std.proofs.lemmas.Option.{slice_get_read}
use Rattle.sshc_wire.proofs.OutboxLemmas.{texts_next, told_next, unless_err}
use Rattle.sshc_wire.proofs.outbox.add_all.Goals as goal

pub loop-one-preserved : goal.loop-one-preserved
loop-one-preserved c =
    let fine = sym c.is_err.ensures.value ∙ c.if-is_err.false in
    let there : slice_get c.args.output.now c.loop-one.one-index ≡ Some c.one-item.result = slice_get_read c.args.output.now _ c.loop-one.one-index c.one-item.result refl c.loop-one-test.true c.one-item.is in
    record {
      count = c.loop-one.invariant.count;
      texts = texts_next c.args.held.now _ _ c.args.is_muted c.args.output.now c.loop-one.one-index c.one-item.result there c.loop-one.invariant.texts (unless_err c.add.result _ c.add.ensures.ok fine);
      told = told_next c.args.is_muted c.args.output.now c.loop-one.one-index c.one-item.result there c.loop-one.invariant.told (unless_err c.add.result _ c.add.ensures.told fine);
    }
