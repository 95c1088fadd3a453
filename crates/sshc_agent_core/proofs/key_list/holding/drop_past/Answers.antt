use Rattle.std.proofs.Common.{rules, ℕ, not, ap, ◌∙◌, sym, subst}
use Rattle.std.specs.Global.{Vec}
use Rattle.std.proofs.lemmas.Map.Made.{filter_same_pairs}
use Rattle.std.specs.Map.{values_of}
use Rattle.sshc_agent_core.specs.declared.key_list.HeldKey.{HeldKey}
use Rattle.sshc_agent_core.specs.KeyList.{is_past}
use Rattle.sshc_agent_core.specs.Stored.{AreKeyed}
use Rattle.sshc_agent_core.proofs.StoredLemmas.{kept_keyed, kept_values}
use Rattle.sshc_agent_core.proofs.key_list.holding.drop_past.Goals as goal

pub returns-clause-left : goal.returns-clause-left
returns-clause-left c =
    ap values_of (filter_same_pairs _ (λ (e : Vec ℕ × HeldKey). not (is_past e.1.deadline c.args.now)) _ (λ k v b w f' t. search rules) _ _ c.retain.ensures.filtered)
    ∙ kept_values (λ (k : HeldKey). not (is_past k.deadline c.args.now)) _

pub returns-clause-keyed : goal.returns-clause-keyed
returns-clause-keyed c =
    subst AreKeyed (sym (filter_same_pairs _ (λ (e : Vec ℕ × HeldKey). not (is_past e.1.deadline c.args.now)) _ (λ k v b w f' t. search rules) _ _ c.retain.ensures.filtered))
    (kept_keyed (λ (k : HeldKey). not (is_past k.deadline c.args.now)) _ c.requires)
