use Rattle.std.proofs.Common.{◌≡◌, ℕ, List, [], ◌+◌, take, drop, ap, sym, ◌∙◌, subst, Ok, Err}
use Rattle.std.proofs.lemmas.List.{take-append-drop}
use Rattle.sshc_key.specs.Signers.{since}
use Rattle.sshc_run_script.specs.PausedRuns.{History, followed_by, text_since, HasRun, IsRun}
use Rattle.sshc_sample_snippets.proofs.HandedEvents.{bytes_of, followed_more, followed_none, none_added, added_on, one_more}
use Rattle.sshc_sample_snippets.proofs.paused_runs.hand_over.Goals as goal

pub loop-event-init : goal.loop-event-init
loop-event-init g c = record {
  going = c.requires.going;
  calls = none_added _;
  text = none_added _;
  runs = λ asked h same is. subst (λ (x : History). IsRun asked x c.args.run.now) (followed_none h (g.G.LocalSigner.calls c.args.signer.now) c.args.lines.now.items) is;
}

pub loop-event-preserved : goal.loop-event-preserved
loop-event-preserved g c =
    let so = c.loop-event.invariant in
    let bytes : c.as_slice.result.now ≡ c.event-item.result = cc in
    let more = one_more c.args.events.now c.loop-event.event-index c.as_slice.result.now c.event-item.result c.loop-event-test.true c.event-item.is bytes in
    record {
      going = c.in-Went.ensures.takes.1;
      calls = added_on _ _ _ so.calls c.in-Went.ensures.gained;
      text = added_on _ _ _ so.text c.in-Went.ensures.lines;
      runs = λ asked h same is.
          subst (λ (x : History). IsRun asked x c.take.new.self)
          (followed_more h (take c.loop-event.event-index c.args.events.now) c.as_slice.result.now _ _ _ _ _ _ so.calls c.in-Went.ensures.gained so.text c.in-Went.ensures.lines
          ∙ ap (λ (handed : List (List ℕ)). followed_by h (bytes_of handed) (since (g.G.LocalSigner.calls c.args.signer.now) (g.G.LocalSigner.calls c.take.new.signer)) (text_since c.args.lines.now.items c.take.new.lines.items)) (sym more))
          (c.in-Went.ensures.takes.2 asked _ same (so.runs asked h same is));
    }

pub returns-in-Ended : goal.returns-in-Ended
returns-in-Ended g c =
    let so = c.loop-event.invariant in
    let bytes : c.as_slice.result.now ≡ c.event-item.result = cc in
    let more = one_more c.args.events.now c.loop-event.event-index c.as_slice.result.now c.event-item.result c.loop-event-test.true c.event-item.is bytes in
    record {
      handed = λ asked h same is.
          let stop = c.in-Ended.ensures.takes.2 asked _ same (so.runs asked h same is) in (
            take (c.loop-event.event-index + 1) c.args.events.now,
            drop (c.loop-event.event-index + 1) c.args.events.now,
            stop.0,
            sym (take-append-drop (c.loop-event.event-index + 1) c.args.events.now),
            subst (λ (x : History). HasRun asked x stop.0 (Ok c.in-Ended.ended))
                (followed_more h (take c.loop-event.event-index c.args.events.now) c.as_slice.result.now _ _ _ _ _ _ so.calls c.in-Ended.ensures.gained so.text c.in-Ended.ensures.lines
                ∙ ap (λ (handed : List (List ℕ)). followed_by h (bytes_of handed) (since (g.G.LocalSigner.calls c.args.signer.now) (g.G.LocalSigner.calls c.take.new.signer)) (text_since c.args.lines.now.items c.take.new.lines.items)) (sym more))
                stop.1,
          );
    }

pub returns-in-Refused : goal.returns-in-Refused
returns-in-Refused g c =
    let so = c.loop-event.invariant in
    let bytes : c.as_slice.result.now ≡ c.event-item.result = cc in
    let more = one_more c.args.events.now c.loop-event.event-index c.as_slice.result.now c.event-item.result c.loop-event-test.true c.event-item.is bytes in
    record {
      handed = λ asked h same is.
          let stop = c.in-Refused.ensures.takes.2 asked _ same (so.runs asked h same is) in (
            take (c.loop-event.event-index + 1) c.args.events.now,
            drop (c.loop-event.event-index + 1) c.args.events.now,
            stop.0,
            sym (take-append-drop (c.loop-event.event-index + 1) c.args.events.now),
            subst (λ (x : History). HasRun asked x stop.0 (Err c.in-Refused.error))
                (followed_more h (take c.loop-event.event-index c.args.events.now) c.as_slice.result.now _ _ _ _ _ _ so.calls c.in-Refused.ensures.gained so.text c.in-Refused.ensures.lines
                ∙ ap (λ (handed : List (List ℕ)). followed_by h (bytes_of handed) (since (g.G.LocalSigner.calls c.args.signer.now) (g.G.LocalSigner.calls c.take.new.signer)) (text_since c.args.lines.now.items c.take.new.lines.items)) (sym more))
                stop.1,
          );
    }

pub returns : goal.returns
returns g c = record {
  handed = λ asked h same is. (
    take c.loop-event.event-index c.args.events.now,
    drop c.loop-event.event-index c.args.events.now,
    [],
    sym (take-append-drop c.loop-event.event-index c.args.events.now),
    (c.loop-event.invariant.runs asked h same is).promised,
  );
}
