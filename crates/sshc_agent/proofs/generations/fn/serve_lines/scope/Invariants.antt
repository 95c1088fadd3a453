use Rattle.std.proofs.Common.{◌≤◌}
use Rattle.sshc_agent.proofs.generations.fn.serve_lines.scope.Given as goal

abbrev pub invariant-loop : goal.invariant-loop
invariant-loop g l =
    (goal.iterator-loop g).can_next l.iterator' × (goal.iterator-loop g).is_finite l.iterator'
    × (g.I.Listener.faults l.initial.listener ≤ g.I.Listener.faults l.listener)
