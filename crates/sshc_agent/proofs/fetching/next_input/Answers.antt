use Rattle.std.proofs.Common.{rules, ◌≡◌, true, Ok, refl, ap, ◌∙◌}
use Rattle.sshc_agent.specs.Talk.{seen}
use Rattle.sshc_agent.proofs.Reading.{found, nothing_read, read_on, starved_read}
use Rattle.sshc_agent.proofs.fetching.next_input.Goals as goal

pub loop-init : goal.loop-init
loop-init g c = (tt, tt, nothing_read _ _, refl, refl, refl)

pub returns-in-Some-2-clause-fetched : goal.returns-in-Some-2-clause-fetched
returns-in-Some-2-clause-fetched g c = found _ _ _ _ _ _ c.loop.invariant.2 (rw c.in-Some-2.is at c.in_ok-input.ensures)

pub returns-in-Err-clause-fetched : goal.returns-in-Err-clause-fetched
returns-in-Err-clause-fetched g c =
    starved_read _ _ c.next-in-loop.new.self c.read_more.new.frames _
    (seen (g.S.Source.left c.loop.stream) (g.S.Sink.contents c.loop.stream) (g.S.Source.faults c.loop.stream) (g.S.Sink.faults c.loop.stream))
    (seen (g.S.Source.left c.read_more.new.stream) (g.S.Sink.contents c.read_more.new.stream) (g.S.Source.faults c.read_more.new.stream) (g.S.Sink.faults c.read_more.new.stream))
    _ c.loop.invariant.2 c.in-Err.ensures.read

pub loop-preserved : goal.loop-preserved
loop-preserved g c =
    let i = c.loop.invariant in
    let none = rw c.in-None-2.is at c.in_ok-input.ensures in
    let went : c.in-Ok-true.field-0 ≡ true = search rules in
    let more = rw went at c.in-Ok-true.ensures.read in
    let same = c.read_more.ensures.same (c.in-Ok-true.is ∙ ap Ok went) in
    (tt, tt, read_on _ _ _ _ _ _ _ i.2 none.1 more, same ∙ i.3, c.read_more.ensures.unwritten.0 ∙ i.4, c.read_more.ensures.unwritten.1 ∙ i.5)
