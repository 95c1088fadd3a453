use Rattle.std.proofs.Common.{◌≡◌, length}
use Rattle.sshc_wire.specs.Names.{names_in}
use Rattle.sshc_wire.proofs.names.first_name.Given as goal
use denote.Shadow.{shadow}
use denote.Text.{Utf8}

abbrev pub invariant-loop-left : goal.invariant-loop-left
invariant-loop-left l = (names_in l.left ≡ names_in l.text) × shadow (Utf8 l.left)

abbrev pub decreases-loop-left : goal.decreases-loop-left
decreases-loop-left l = length l.left
