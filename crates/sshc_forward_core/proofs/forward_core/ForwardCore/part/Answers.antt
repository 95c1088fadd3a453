use Rattle.std.proofs.Common.{ℕ, ap, ◌∙◌}
use Rattle.std.specs.Ordering.{nat_cmp}
use Rattle.std.specs.FinMap.{FinMap, remove, from_entries}
use Rattle.sshc_forward_core.specs.Forwards.{Forwards}
use Rattle.sshc_forward_core.proofs.MapLemmas.{removed}
use Rattle.sshc_forward_core.proofs.forward_core.ForwardCore.part.Goals as goal

pub returns : goal.returns
returns c =
    ap (λ (m : FinMap nat_cmp ℕ). let t : Forwards = record { pairs = from_entries c.self.inside.pairs.entries; joined = m } in t)
    (removed c.self.inside.joined.entries c.remove.new.self.entries c.args.channel c.remove.ensures.updates.0)
    ∙ ap (λ (t : Forwards). record t { joined = remove t.joined c.args.channel }) c.self.view_is
