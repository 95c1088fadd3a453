use Rattle.std.proofs.Common.{ap, rules, ◌∙◌, map, not}
use Rattle.std.proofs.lemmas.Fn.{filter_same}
use Rattle.std.specs.Borrow.{Bor}
use Rattle.sshc_auth.specs.declared.opening.Waiter.{Waiter}
use Rattle.sshc_auth.specs.Extensions.{waits_for}
use Rattle.sshc_auth.proofs.ListLemmas.{map_filter}
use Rattle.sshc_auth.proofs.extension.leave_others.Goals as goal

pub returns : goal.returns
returns c =
    ap (map (λ w. w.now)) (filter_same _ (λ w. not (waits_for c.args.name.now w.now)) _ (λ x b f' k. search rules) _ _ c.retain.ensures.filtered)
    ∙ map_filter (λ (w : Bor Waiter). w.now) (λ waiter. not (waits_for c.args.name.now waiter)) _
