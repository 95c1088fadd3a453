use Rattle.std.proofs.Common.{◌≡◌, ℕ, ◌<◌, false, length}
use Rattle.std.specs.BTreeMap.{get}
use Rattle.std.specs.Ordering.{nat_cmp}
use Rattle.sshc_agent_core.proofs.key_list.due.cut_due.Given as goal

abbrev pub invariant-loop-any : goal.invariant-loop-any
invariant-loop-any l =
    record {
      later : (q : ℕ) → l.now < q → get nat_cmp l.due q ≡ get nat_cmp l.initial.due q;
      same : l.any ≡ false → (q : ℕ) → get nat_cmp l.due q ≡ get nat_cmp l.initial.due q;
    }

abbrev pub decreases-loop-any : goal.decreases-loop-any
decreases-loop-any l = length l.due.entries
