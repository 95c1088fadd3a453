use Rattle.std.proofs.Common.{ℕ, ap, ◌∙◌}
use Rattle.std.specs.Ordering.{nat_cmp}
use Rattle.std.specs.FinMap.{FinMap, insert, from_entries}
use Rattle.sshc_forward_core.specs.Forwards.{Forwards}
use Rattle.sshc_forward_core.proofs.MapLemmas.{inserted}
use Rattle.sshc_forward_core.proofs.forward_core.ForwardCore.join.Goals as goal

pub returns-clause-ok : goal.returns-clause-ok
returns-clause-ok c =
    ap (λ (m : FinMap nat_cmp ℕ). let t : Forwards = record { pairs = from_entries c.self.inside.pairs.entries; joined = m } in t)
    (inserted c.self.inside.joined.entries c.insert.new.self.entries c.args.channel c.args.stream c.in_ok-insert.ensures.updates.0)
    ∙ ap (λ (t : Forwards). record t { joined = insert t.joined c.args.channel c.args.stream }) c.self.view_is
