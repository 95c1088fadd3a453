use Rattle.std.proofs.Common.{List, rules, refl, sym, subst}
use Rattle.std.specs.BTreeMap.{get}
use Rattle.std.specs.Ordering.{nat_cmp}
use Rattle.indexmap.specs.IndexMap.{values}
use Rattle.sshc_agent_core.specs.declared.key_list.HeldKey.{HeldKey}
use Rattle.sshc_agent_core.specs.Deadlines.{Agree}
use Rattle.sshc_agent_core.proofs.DueLemmas.{moved_agree, set_agree}
use Rattle.sshc_agent_core.proofs.key_list.holding.replace.Goals as goal

pub returns-in-Ok-clause-agree : goal.returns-in-Ok-clause-agree
returns-in-Ok-clause-agree c =
    subst (λ (ks : List HeldKey). Agree ks (get nat_cmp c.move_due.new.due)) (sym c.set_key-in-Ok.ensures.set)
    (moved_agree (values c.args.keys.now) c.args.at c.key_at.result.now c.args.key _ _ c.key_at.ensures (c.requires.same _ c.key_at.ensures) (λ same. search rules)
    c.requires.apart c.in-Ok.ensures.ok c.requires.agree)

pub returns-then-eq-clause-agree : goal.returns-then-eq-clause-agree
returns-then-eq-clause-agree c =
    subst (λ (ks : List HeldKey). Agree ks (get nat_cmp c.args.due.now)) (sym c.set_key.ensures.set)
    (set_agree (values c.args.keys.now) c.args.at c.key_at.result.now c.args.key (get nat_cmp c.args.due.now) (get nat_cmp c.args.due.now)
    c.key_at.ensures (c.requires.same _ c.key_at.ensures) (search rules) (λ q. refl) c.requires.agree)
