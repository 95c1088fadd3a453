use Rattle.std.proofs.Common.{◌≡◌, ◌-◌}
use Rattle.sshc_wire.specs.Counted.{times_at}
use Rattle.sshc_proxy.specs.Listing.{keys_seen, listed_at}
use Rattle.sshc_proxy.proofs.ReadingLemmas.{behind}
use Rattle.sshc_proxy.proofs.listing.read_keys.Given as goal

-- the keys that were read, and then the remaining ones, are all of them
abbrev pub invariant-loop-taken : goal.invariant-loop-taken
invariant-loop-taken l = behind (keys_seen l.found.items) (times_at (l.count - l._taken) listed_at l.c) ≡ times_at l.count listed_at l.fn.c
