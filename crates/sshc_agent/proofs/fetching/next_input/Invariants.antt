use Rattle.std.proofs.Common.{◌≡◌}
use Rattle.sshc_agent.specs.Talk.{ReadSoFar, seen}
use Rattle.sshc_agent.proofs.fetching.next_input.Given as goal

abbrev pub invariant-loop : goal.invariant-loop
invariant-loop g l =
    (goal.iterator-loop g).can_next l.iterator' × (goal.iterator-loop g).is_finite l.iterator'
    × ReadSoFar l.initial.frames l.frames (seen (g.S.Source.left l.initial.stream) (g.S.Sink.contents l.initial.stream) (g.S.Source.faults l.initial.stream) (g.S.Sink.faults l.initial.stream))
    (seen (g.S.Source.left l.stream) (g.S.Sink.contents l.stream) (g.S.Source.faults l.stream) (g.S.Sink.faults l.stream))
    × (g.S.Source.faults l.stream ≡ g.S.Source.faults l.initial.stream)
    × (g.S.Sink.contents l.stream ≡ g.S.Sink.contents l.initial.stream) × (g.S.Sink.faults l.stream ≡ g.S.Sink.faults l.initial.stream)
