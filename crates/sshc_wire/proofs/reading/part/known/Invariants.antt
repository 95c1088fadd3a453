use Rattle.std.proofs.Common.{◌≡◌, ◌++◌}
use Rattle.std.specs.List.{filter_map}
use Rattle.sshc_wire.specs.Methods.{method_of}
use Rattle.sshc_wire.proofs.reading.part.known.Given as goal

abbrev pub invariant-loop-name : goal.invariant-loop-name
invariant-loop-name l = filter_map method_of l.fn.left ≡ l.methods ++ filter_map method_of l.name-iterator
