use Rattle.std.proofs.Common.{List, Option, is_some, ap, sym, ◌∙◌, subst, rules}
use Rattle.std.proofs.lemmas.List.Elements.{filter_from_retain}
use Rattle.sshc_mux.specs.ChannelState.{ChannelState}
use Rattle.sshc_mux.specs.Places.{present, numbers, Apart}
use Rattle.sshc_mux.proofs.IndexLemmas.{present-filter, has_numbers}
use Rattle.sshc_mux.proofs.table.compact.Goals as goal

pub renumber-requires-clause-apart : goal.renumber-requires-clause-apart
renumber-requires-clause-apart c =
    let left = ap present (filter_from_retain _ (λ (o : Option ChannelState). is_some o) (λ p x b q h. search rules) _ c.args.slots.now.items c.retain.new.self.items c.retain.ensures.filtered) ∙ present-filter c.args.slots.now.items in
    subst (λ (cs : List ChannelState). Apart (numbers cs)) (sym (ap present c.as_slice.ensures.value ∙ left)) c.requires.apart

pub renumber-requires-clause-known : goal.renumber-requires-clause-known
renumber-requires-clause-known c =
    let left = ap present (filter_from_retain _ (λ (o : Option ChannelState). is_some o) (λ p x b q h. search rules) _ c.args.slots.now.items c.retain.new.self.items c.retain.ensures.filtered) ∙ present-filter c.args.slots.now.items in
    has_numbers _ c.args.slots.now.items c.as_slice.result.now (ap present c.as_slice.ensures.value ∙ left) c.requires.indexed

pub returns-clause-left : goal.returns-clause-left
returns-clause-left c =
    ap present (filter_from_retain _ (λ (o : Option ChannelState). is_some o) (λ p x b q h. search rules) _ c.args.slots.now.items c.retain.new.self.items c.retain.ensures.filtered) ∙ present-filter c.args.slots.now.items
