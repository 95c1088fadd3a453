use Rattle.sshc_agent.specs.Moments.{TimedSoFar}
use Rattle.sshc_agent.specs.Signing.{Caused, Signs}
use Rattle.sshc_agent.specs.Talk.{Serving, seen}
use Rattle.sshc_agent.proofs.serving.serve_one.Given as goal

abbrev pub invariant-loop : goal.invariant-loop
invariant-loop g l =
    (goal.iterator-loop g).can_next l.iterator' × (goal.iterator-loop g).is_finite l.iterator'
    × Serving (g.A.Agent.allows l.agent) (g.A.Agent.confirms l.agent)
    (seen (g.S.Source.left l.initial.stream) (g.S.Sink.contents l.initial.stream) (g.S.Source.faults l.initial.stream) (g.S.Sink.faults l.initial.stream))
    (seen (g.S.Source.left l.stream) (g.S.Sink.contents l.stream) (g.S.Source.faults l.stream) (g.S.Sink.faults l.stream))
    l.initial.seat l.seat l.frames l.answer
    × TimedSoFar (g.C.Clock.told l.initial.clock) (g.C.Clock.told l.clock) l.initial.seat l.seat
    × Signs (g.G.LocalSigner.calls l.initial.signer) (g.G.LocalSigner.calls l.signer) l.initial.seat l.seat
    × Caused (g.G.LocalSigner.refusals l.initial.signer) (g.G.LocalSigner.refusals l.signer) l.initial.seat l.seat
