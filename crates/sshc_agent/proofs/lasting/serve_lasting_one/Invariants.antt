use Rattle.sshc_agent.specs.Signing.{SignsLasting}
use Rattle.sshc_agent.proofs.lasting.serve_lasting_one.Given as goal

abbrev pub invariant-loop : goal.invariant-loop
invariant-loop g l =
    (goal.iterator-loop g).can_next l.iterator' × (goal.iterator-loop g).is_finite l.iterator'
    × SignsLasting g.L.Settings.asks l.conn (g.G.LocalSigner.calls l.initial.signer) (g.G.LocalSigner.calls l.signer)
