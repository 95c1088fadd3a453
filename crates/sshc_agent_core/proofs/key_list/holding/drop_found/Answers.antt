use Rattle.std.proofs.Common.{List, sym, subst, ◌∙◌}
use Rattle.std.specs.BTreeMap.{get}
use Rattle.std.specs.Ordering.{nat_cmp}
use Rattle.indexmap.specs.IndexMap.{values}
use Rattle.sshc_agent_core.specs.declared.key_list.HeldKey.{HeldKey}
use Rattle.sshc_agent_core.specs.Deadlines.{Agree}
use Rattle.sshc_agent_core.proofs.DueLemmas.{removed_agree}
use Rattle.sshc_agent_core.proofs.StoredLemmas.{held_blob}
use Rattle.sshc_agent_core.proofs.key_list.holding.drop_found.Goals as goal

pub returns-clause-agree : goal.returns-clause-agree
returns-clause-agree c =
    subst (λ (ks : List HeldKey). Agree ks (get nat_cmp c.drop_due_if.new.due)) (sym c.drop_named.ensures.left)
    (removed_agree (values c.args.keys.now) c.args.at c.key_at.result.now c.args.blob.now _ _ c.key_at.ensures
    (held_blob (values c.args.keys.now) c.args.blob.now c.key_at.result.now (c.requires.found ∙ c.key_at.ensures)) c.requires.apart c.in_ok-drop_due_if.ensures.ok c.requires.agree)
