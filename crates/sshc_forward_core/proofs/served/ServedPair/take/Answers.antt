use Rattle.std.proofs.Common.{◌≡◌, ap, subst, ◌∙◌}
use Rattle.sshc_forward_core.specs.Forwards.{effect}
use Rattle.sshc_forward_core.specs.PairAccount.{given_after, IsOrderly}
use Rattle.sshc_forward_core.specs.Served.{Served, fwd_event, served_after}
use Rattle.sshc_forward_core.proofs.ServedLaw.{taken_so, still_served}
use Rattle.sshc_forward_core.proofs.served.ServedPair.take.Goals as goal

pub invariant_of-self : goal.invariant_of-self
invariant_of-self c =
    let row = rw c.fwd_event-event.ensures at c.in-Ok.ensures.row in
    still_served c.args.event c.self.inside.number c.self.inside.core c.step.new.self c.self.inside.given c.after-self-inside.result c.in-Ok.outputs.items
    c.self.invariant row.1 row.2 (c.after-self-inside.ensures ∙ ap (given_after c.self.inside.given) c.as_slice.ensures.value)

pub returns-in-Ok : goal.returns-in-Ok
returns-in-Ok c =
    let row = rw c.fwd_event-event.ensures at c.in-Ok.ensures.row in
    let s : Served = record { number = c.self.inside.number; pairs = c.self.inside.core; given = c.self.inside.given } in
    let after : Served = record { number = c.self.inside.number; pairs = c.step.new.self; given = c.after-self-inside.result } in
    subst (λ (u : Served). (after ≡ served_after c.args.event u)
    × (c.in-Ok.outputs.items ≡ (effect (fwd_event u.number c.args.event) u.pairs).outputs)
    × IsOrderly u.given c.in-Ok.outputs.items) c.self.view_is
    (taken_so c.args.event s c.step.new.self c.in-Ok.outputs.items c.after-self-inside.result c.self.invariant row.1 row.2
    (c.after-self-inside.ensures ∙ ap (given_after c.self.inside.given) c.as_slice.ensures.value))
