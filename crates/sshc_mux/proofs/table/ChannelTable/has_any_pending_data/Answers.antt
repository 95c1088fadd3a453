use Rattle.std.proofs.Common.{ℕ, ltb, ap, sym, ◌∙◌}
use Rattle.sshc_mux.proofs.IndexLemmas.{any_counted}
use Rattle.sshc_mux.proofs.table.ChannelTable.has_any_pending_data.Goals as goal

pub returns : goal.returns
returns c = rw (← c.self.view_is) (ap (λ (n : ℕ). ltb 0 n) c.self.invariant.0.counted ∙ sym (any_counted _))
