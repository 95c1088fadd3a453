use Rattle.std.proofs.Common.{sym, subst, ◌≡◌, List, false, ◌∙◌, ap}
use Rattle.sshc_wire.specs.declared.methods.MethodKind.{MethodKind}
use Rattle.sshc_wire.specs.Methods.{HasNoDoubles, has_method}
use Rattle.sshc_wire.proofs.Doubles.{added_apart}
use Rattle.sshc_wire.proofs.methods.MethodSet.insert.Goals as goal

pub invariant_of-self-2 : goal.invariant_of-self-2
invariant_of-self-2 c =
    let absent : has_method c.self.inside.methods.items c.args.method ≡ false =
    ap (λ (ms : List MethodKind). has_method ms c.args.method) c.self.view_is ∙ sym c.contains.ensures ∙ c.if-contains.false in
    subst HasNoDoubles (sym c.in_ok-push.ensures.items) (added_apart c.self.inside.methods.items c.args.method absent c.self.invariant)
