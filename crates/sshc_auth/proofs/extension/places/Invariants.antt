use Rattle.std.proofs.Common.{◌≡◌, take, map}
use Rattle.sshc_auth.proofs.extension.places.Given as goal

abbrev pub invariant-loop-waiter : goal.invariant-loop-waiter
invariant-loop-waiter l = map (λ w. w.now) l.places.items ≡ take l.waiter-index l.waiters
