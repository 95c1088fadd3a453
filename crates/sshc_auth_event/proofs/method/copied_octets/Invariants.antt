use Rattle.std.proofs.Common.{◌≡◌, take}
use Rattle.sshc_auth_event.proofs.method.copied_octets.Given as goal

abbrev pub invariant-loop-item : goal.invariant-loop-item
invariant-loop-item l = l.copies ≡ take l.item-index l.item-items
