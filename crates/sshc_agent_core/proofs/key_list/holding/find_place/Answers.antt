use Rattle.std.proofs.Common.{◌≡◌, ℕ, ◌<◌, length, slice_get, IfSome, None, Option, sym, subst}
use Rattle.std.specs.Prelude.{MatchOption}
use Rattle.std.proofs.lemmas.Map.Entries.{length-values_of}
use Rattle.indexmap.specs.IndexMap.{values}
use Rattle.sshc_agent_core.specs.declared.key_list.HeldKey.{HeldKey}
use Rattle.sshc_agent_core.proofs.StoredLemmas.{held_stored, placed_by}
use Rattle.sshc_agent_core.proofs.key_list.holding.find_place.Goals as goal

pub returns-clause-found : goal.returns-clause-found
returns-clause-found c =
    let keys = values c.args.keys.now in
    let found = c.get_index_of.result in
    subst (λ (h : Option HeldKey). MatchOption c.get_index_of.result (h ≡ None) (λ at. (at < length (values c.args.keys.now)) × (h ≡ slice_get (values c.args.keys.now) at)))
    (sym (held_stored c.args.keys.now.entries c.args.blob.now c.requires))
    (placed_by _ _ _ c.get_index_of.ensures.found (subst (λ (n : ℕ). IfSome c.get_index_of.result (λ i. i < n)) (sym (length-values_of c.args.keys.now.entries)) c.get_index_of.ensures.within) c.get_index_of.ensures.value)
