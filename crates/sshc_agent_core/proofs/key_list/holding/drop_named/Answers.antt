use Rattle.std.proofs.Common.{rules, ℕ, not, ap, ◌∙◌, sym, subst}
use Rattle.std.specs.Global.{Vec}
use Rattle.std.proofs.lemmas.Map.Made.{filter_same_pairs}
use Rattle.std.specs.Map.{values_of}
use Rattle.sshc_agent_core.specs.declared.key_list.HeldKey.{HeldKey}
use Rattle.sshc_agent_core.specs.KeyList.{is_key}
use Rattle.sshc_agent_core.specs.Stored.{AreKeyed}
use Rattle.sshc_agent_core.proofs.StoredLemmas.{kept_keyed, kept_values}
use Rattle.sshc_agent_core.proofs.key_list.holding.drop_named.Goals as goal

pub returns-clause-left : goal.returns-clause-left
returns-clause-left c =
    ap values_of (filter_same_pairs _ (λ (e : Vec ℕ × HeldKey). not (is_key c.args.blob.now e.1)) _ (λ k v b w f' t. search rules) _ _ c.retain.ensures.filtered)
    ∙ kept_values (λ (k : HeldKey). not (is_key c.args.blob.now k)) _

pub returns-clause-keyed : goal.returns-clause-keyed
returns-clause-keyed c =
    subst AreKeyed (sym (filter_same_pairs _ (λ (e : Vec ℕ × HeldKey). not (is_key c.args.blob.now e.1)) _ (λ k v b w f' t. search rules) _ _ c.retain.ensures.filtered))
    (kept_keyed (λ (k : HeldKey). not (is_key c.args.blob.now k)) _ c.requires)
