use Rattle.sshc_proxy.specs.Frames.{stream}
use Rattle.sshc_proxy.specs.ProxyRun.{streams, terms}
use Rattle.sshc_proxy.specs.Relaying.{Relaying, idle}
use Rattle.sshc_proxy.proofs.relay.proxy_run.Given as goal

-- the run so far
abbrev pub invariant-loop-turn : goal.invariant-loop-turn
invariant-loop-turn g l =
    Relaying (terms (g.V.Verifier.accepts l.verifier) l.fn.policy)
    (streams (stream (g.S.Source.left l.initial.client) (g.S.Sink.contents l.initial.client) (g.S.Source.faults l.initial.client) (g.S.Sink.faults l.initial.client))
    (stream (g.U.Source.left l.initial.agent) (g.U.Sink.contents l.initial.agent) (g.U.Source.faults l.initial.agent) (g.U.Sink.faults l.initial.agent)))
    (streams (stream (g.S.Source.left l.client) (g.S.Sink.contents l.client) (g.S.Source.faults l.client) (g.S.Sink.faults l.client))
    (stream (g.U.Source.left l.agent) (g.U.Sink.contents l.agent) (g.U.Source.faults l.agent) (g.U.Sink.faults l.agent)))
    l.relay.core idle
