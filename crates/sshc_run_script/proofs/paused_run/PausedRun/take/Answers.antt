use Rattle.std.proofs.Common.{◌≡◌, false, sym}
use Rattle.sshc_run_script.proofs.PausedLemmas.{takes_by}
use Rattle.sshc_run_script.proofs.paused_run.PausedRun.take.Goals as goal

pub returns-clause-takes : goal.returns-clause-takes
returns-clause-takes g c =
    let going : c.args.self.now.over ≡ false = cc in
    let bytes : c.args.events.now ≡ c.new-source.result.left.now = sym c.new-source.ensures.left in
    let before : c.args.lines.now.items ≡ c.new-sink.result.lines.items = cc in
    let now : c.into_lines.result.items ≡ c.run_on-answer.new.sink.lines.items = cc in
    rw (bytes, before, now, c.step_of.ensures)
    (takes_by c.run_laws.ensures.laws (g.V.Verifier.accepts c.args.verifier.now) c.args.self.now c.run_on-answer.new.self c.new-source.result.left.now c.new-sink.result.lines.items c.run_on-answer.new.sink.lines.items c.new-source.result.reads c.run_on-answer.new.source.reads _ _ c.run_on-answer.new.source.left.now c.run_on-answer.result
    (record {
      going = going;
      over = c.run_on-answer.ensures.over;
      hosts = c.run_on-answer.ensures.same;
      ends = c.run_on-answer.ensures.run;
      pauses = c.run_on-answer.ensures.paused;
      faults = c.run_on-answer.ensures.counts.faults;
    }))
