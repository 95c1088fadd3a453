use Rattle.std.proofs.Common.{◌+◌, ◌-◌, List, ap, sym, ◌∙◌}
use Rattle.std.proofs.lemmas.Result.{err_from_is_err_and}
use Rattle.sshc_wire.specs.Counted.{times_at}
use Rattle.sshc_proxy.specs.Listing.{Listed, keys_seen, listed_at, listed_seen}
use Rattle.sshc_proxy.proofs.ListingLemmas.{seen_push}
use Rattle.sshc_proxy.proofs.ReadingLemmas.{behind, listing_stuck, took}
use Rattle.sshc_proxy.proofs.listing.read_keys.Goals as goal

pub returns-in_err-one : goal.returns-in_err-one
returns-in_err-one c =
    let p = err_from_is_err_and c.from_residual.result c.from_residual.ensures.1 in
    rw (p.1, p.2) (listing_stuck listed_at c.args.count c.loop-taken._taken (keys_seen c.loop-taken.found.items) c.loop-taken.c (times_at c.args.count listed_at c.args.c.now) c.in_err-one.field-0.0 c.loop-taken-test.true c.loop-taken.invariant c.in_err-one.ensures)

pub loop-taken-preserved : goal.loop-taken-preserved
loop-taken-preserved c =
    ap (λ (ps : List Listed). behind ps (times_at (c.args.count - (c.loop-taken._taken + 1)) listed_at c.read_key.new.c)) (ap keys_seen c.in_ok-push.ensures.items ∙ seen_push c.loop-taken.found.items c.in_ok-one.one)
    ∙ sym (took listed_at c.args.count c.loop-taken._taken (keys_seen c.loop-taken.found.items) c.loop-taken.c c.read_key.new.c (listed_seen c.in_ok-one.one) c.loop-taken-test.true c.in_ok-one.ensures) ∙ c.loop-taken.invariant
