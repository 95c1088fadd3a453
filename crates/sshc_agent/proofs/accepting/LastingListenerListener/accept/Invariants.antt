use Rattle.std.proofs.Common.{◌≡◌}
use Rattle.sshc_agent.proofs.accepting.LastingListenerListener.accept.Given as goal

abbrev pub invariant-loop : goal.invariant-loop
invariant-loop g l =
    (goal.iterator-loop g).can_next l.iterator' × (goal.iterator-loop g).is_finite l.iterator'
    × (g.A.Acceptor.faults l.self.acceptor ≡ g.A.Acceptor.faults l.initial.self.acceptor)
