use Rattle.std.proofs.Common.{ap, ◌∙◌}
use Rattle.std.specs.Ordering.{nat_cmp}
use Rattle.std.specs.FinMap.{FinMap, remove, from_entries}
use Rattle.sshc_forward_core.specs.PairState.{PairState}
use Rattle.sshc_forward_core.specs.Forwards.{Forwards}
use Rattle.sshc_forward_core.proofs.MapLemmas.{removed}
use Rattle.sshc_forward_core.proofs.forward_core.ForwardCore.take_out.Goals as goal

pub returns : goal.returns
returns c =
    ap (λ (m : FinMap nat_cmp PairState). let t : Forwards = record { pairs = m; joined = from_entries c.self.inside.joined.entries } in t)
    (removed c.self.inside.pairs.entries c.remove.new.self.entries c.args.stream c.remove.ensures.updates.0)
    ∙ ap (λ (t : Forwards). record t { pairs = remove t.pairs c.args.stream }) c.self.view_is
