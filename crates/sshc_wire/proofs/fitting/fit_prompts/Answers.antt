use Rattle.std.proofs.Common.{subst}
use Rattle.std.proofs.lemmas.List.Elements.{All-more}
use Rattle.sshc_wire.specs.Fitting.{FitsPrompt}
use Rattle.sshc_wire.proofs.FittingLemmas.{all_taken}
use Rattle.sshc_wire.proofs.fitting.fit_prompts.Goals as goal

pub loop-one-preserved : goal.loop-one-preserved
loop-one-preserved c =
    All-more FitsPrompt c.args.prompts.now c.loop-one.one-index c.one-item.result c.loop-one-test.true c.loop-one.invariant (subst FitsPrompt c.one-item.is c.as_str-text.ensures.short)

pub returns : goal.returns
returns c = all_taken FitsPrompt c.args.prompts.now c.loop-one.one-index c.loop-one-test.false c.loop-one.invariant
