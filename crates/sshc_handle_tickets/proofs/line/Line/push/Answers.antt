use Rattle.sshc_handle_tickets.proofs.LineLemmas.{below_put}
use Rattle.sshc_handle_tickets.proofs.line.Line.push.Goals as goal

pub invariant_of-self-2 : goal.invariant_of-self-2
invariant_of-self-2 g c = rw c.in_ok-put.ensures.ok (below_put c.self.inside.next c.args.one c.self.inside.indexed c.self.invariant)
