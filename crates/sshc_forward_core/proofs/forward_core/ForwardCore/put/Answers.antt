use Rattle.std.proofs.Common.{ap, ◌∙◌}
use Rattle.std.specs.Ordering.{nat_cmp}
use Rattle.std.specs.FinMap.{FinMap, insert, from_entries}
use Rattle.sshc_forward_core.specs.PairState.{PairState}
use Rattle.sshc_forward_core.specs.Forwards.{Forwards}
use Rattle.sshc_forward_core.proofs.MapLemmas.{inserted}
use Rattle.sshc_forward_core.proofs.forward_core.ForwardCore.put.Goals as goal

pub returns-clause-ok : goal.returns-clause-ok
returns-clause-ok c =
    ap (λ (m : FinMap nat_cmp PairState). let t : Forwards = record { pairs = m; joined = from_entries c.self.inside.joined.entries } in t)
    (inserted c.self.inside.pairs.entries c.insert.new.self.entries c.args.stream c.args.pair c.in_ok-insert.ensures.updates.0)
    ∙ ap (λ (t : Forwards). record t { pairs = insert t.pairs c.args.stream c.args.pair }) c.self.view_is
