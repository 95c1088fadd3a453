use Rattle.std.proofs.Common.{◌∙◌, Some, refl, ap, sym}
use Rattle.sshc_toy.specs.Keeping.{KeptCalls}
use Rattle.sshc_wire.specs.Memory.{HeldSource, HeldSink}
use Rattle.sshc_run.proofs.GeneratedRuns.{settings_same, run_gives}
use Rattle.sshc_run.proofs.gen_words.run_generated.Goals as goal

pub returns : goal.returns
returns c =
    let gives = run_gives _ _ _ _ _ _ _ _ _ _ _ _ _ _
    refl
    (settings_same _ c.in_ok-config.ensures)
    refl
    (ap (λ (s : HeldSource). Some s.left) c.new-source.ensures ∙ ap Some c.into_text.ensures)
    (ap (λ (s : HeldSink). Some s.contents) c.new-sink.ensures ∙ ap Some c.new-2.ensures.items)
    (ap (λ (s : HeldSource). s.calls) c.new-source.ensures)
    (ap (λ (s : KeptCalls). s.calls) c.new-signer.ensures)
    (ap Some (sym c.contents.ensures))
    (sym c.is_fault.ensures ∙ c.if-is_fault.false)
    c.run_script-answer.ensures.promises.run
    in (c.events-events.ensures, (c.contents.result.now, c.summary_of.ensures, gives))
