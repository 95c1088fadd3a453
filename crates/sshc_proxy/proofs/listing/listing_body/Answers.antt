use Rattle.std.proofs.Common.{◌≡◌, ◌∷◌, ◌++◌, List, ℕ, length, ap, arith, rules, sym, ◌∙◌}
use Rattle.std.proofs.lemmas.Grind.{common_steps}
use Rattle.std.specs.List.{flat_map}
use Rattle.sshc_wire.specs.Wire.{counted_text, u32_text}
use Rattle.sshc_key.specs.AgentNumbers.{IDENTITIES_ANSWER}
use Rattle.sshc_proxy.specs.Listing.{keys_seen, listed_seen, listed_text}
use Rattle.sshc_proxy.proofs.ListingLemmas.{count_seen, text_seen}
use Rattle.sshc_proxy.proofs.listing.listing_body.Goals as goal

pub returns : goal.returns
unfolding counted_text
returns c =
    let keys = c.args.keys.now in
    let is : c.loop-key.body.items ≡ IDENTITIES_ANSWER ∷ (u32_text (length keys) ++ flat_map (λ k. listed_text (listed_seen k)) keys) =
    first_of (search rules, grind (arith, common_steps)) in
    is ∙ ap (λ (text : List ℕ). IDENTITIES_ANSWER ∷ (u32_text (length keys) ++ text)) (text_seen keys)
    ∙ ap (λ (n : ℕ). IDENTITIES_ANSWER ∷ (u32_text n ++ flat_map listed_text (keys_seen keys))) (sym (count_seen keys))
