use Rattle.std.proofs.Common.{◌≡◌, ap, rules, ◌∙◌}
use Rattle.std.specs.Prelude.{filter}
use Rattle.std.proofs.lemmas.Fn.{filter_same}
use Rattle.sshc_proxy.specs.Listing.{keys_seen}
use Rattle.sshc_proxy.specs.Policy.{allowed}
use Rattle.sshc_proxy.proofs.ListingLemmas.{kept_seen}
use Rattle.sshc_proxy.proofs.listing.keep_allowed.Goals as goal

pub returns : goal.returns
returns c =
    let kept : c.retain.new.self.items ≡ filter (λ k. allowed c.args.policy.now c.args.hosts.now k.blob.now) c.args.keys.now.items =
    filter_same _ _ _ (λ x b f' k. search rules) _ _ c.retain.ensures.filtered in
    ap keys_seen kept ∙ kept_seen _ _ _
