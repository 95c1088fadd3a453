use Rattle.std.proofs.Common.{ℕ, List, subst}
use Rattle.std.specs.BTreeMap.{get}
use Rattle.std.specs.Ordering.{nat_cmp}
use Rattle.sshc_agent_core.specs.Deadlines.{Leaves}
use Rattle.sshc_agent_core.proofs.DueLists.{moved_by}
use Rattle.sshc_agent_core.proofs.key_list.due.move_due.Goals as goal

pub returns-clause-ok : goal.returns-clause-ok
returns-clause-ok c =
    moved_by c.args.before c.args.deadline c.args.blob.now c.in_ok-rest.rest _ _ _ c.requires
    (subst (λ (b : List ℕ). Leaves c.args.before b (get nat_cmp c.args.due.now) c.in_ok-rest.rest) c.as_slice.ensures.same c.in_ok-rest.ensures)
    c.in_ok-add_due_if.ensures.ok c.replace_if.ensures
