use Rattle.std.proofs.Common.{◌≡◌, ◌++◌}
use Rattle.sshc_wire.proofs.reading.part.copied.Given as goal

abbrev pub invariant-loop-name : goal.invariant-loop-name
invariant-loop-name l = l.fn.left ≡ l.names ++ l.name-iterator
