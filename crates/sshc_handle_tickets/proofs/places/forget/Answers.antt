use Rattle.sshc_handle_tickets.proofs.PlaceLemmas.{forgotten}
use Rattle.sshc_handle_tickets.proofs.places.forget.Goals as goal

pub returns-in-Some : goal.returns-in-Some
returns-in-Some c = λ n p. rw c.in-Some.is (forgotten _ _ _ _ n p (c.remove-was_there.ensures.updates.0 (n, p)))
