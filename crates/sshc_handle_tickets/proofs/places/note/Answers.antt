use Rattle.std.proofs.Common.{◌≡◌, false, subst}
use Rattle.sshc_handle_tickets.specs.Places.{is_this}
use Rattle.sshc_handle_tickets.proofs.PlaceLemmas.{kept, noted}
use Rattle.sshc_handle_tickets.proofs.places.note.Goals as goal

pub returns-in_ok-_is_new-clause-noted : goal.returns-in_ok-_is_new-clause-noted
returns-in_ok-_is_new-clause-noted c = λ n p. rw c.in-Some.is (noted _ _ _ _ n p (c.in_ok-_is_new.ensures.updates.0 (n, p)))

pub returns-in_ok-_is_new-clause-others : goal.returns-in_ok-_is_new-clause-others
returns-in_ok-_is_new-clause-others c = λ n p no. kept _ _ _ _ n p (c.in_ok-_is_new.ensures.updates.0 (n, p)) (subst (λ number. is_this number c.args.place n p ≡ false) c.in-Some.is no)
