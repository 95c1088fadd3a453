use Rattle.std.proofs.Common.{◌≡◌, ◌++◌, take}
use Rattle.std.specs.List.{flat_map}
use Rattle.sshc_proxy.specs.Listing.{listed_seen, listed_text}
use Rattle.sshc_proxy.proofs.listing.listing_body.Given as goal

abbrev pub invariant-loop-key : goal.invariant-loop-key
invariant-loop-key l = l.body.items ≡ l.initial.body.items ++ flat_map (λ k. listed_text (listed_seen k)) (take l.key-index l.keys)
