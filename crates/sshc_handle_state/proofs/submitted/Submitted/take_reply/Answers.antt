use Rattle.std.proofs.Common.{◌≡◌, false, rules, sym}
use Rattle.sshc_handle_state.proofs.Replies.{flag_off, looked, no_reply}
use Rattle.sshc_handle_state.proofs.submitted.Submitted.take_reply.Goals as goal

pub returns-then-not-self-clause-taken : goal.returns-then-not-self-clause-taken
returns-then-not-self-clause-taken c =
    let off : c.self.inside.may_reply ≡ false = flag_off _ (search (rules)) in
    rw (← c.self.view_is) (sym (no_reply c.self.inside.events.items c.self.inside.may_reply off c.self.invariant).0)

pub returns-then-not-self-clause-rest : goal.returns-then-not-self-clause-rest
returns-then-not-self-clause-rest c =
    let off : c.self.inside.may_reply ≡ false = flag_off _ (search (rules)) in
    rw (← c.self.view_is) (sym (no_reply c.self.inside.events.items c.self.inside.may_reply off c.self.invariant).1)

pub invariant_of-self : goal.invariant_of-self
invariant_of-self c = looked _ _ c.first_reply-reply.result _ c.first_reply-reply.ensures.taken c.first_reply-reply.ensures.none c.is_some-self-inside.ensures
