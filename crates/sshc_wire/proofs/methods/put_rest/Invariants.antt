use Rattle.std.proofs.Common.{◌≡◌, ◌++◌, map, take}
use Rattle.std.specs.List.{flat_map}
use Rattle.sshc_wire.specs.Methods.{method_name}
use Rattle.sshc_wire.specs.Names.{behind_comma}
use Rattle.sshc_wire.proofs.methods.put_rest.Given as goal

abbrev pub invariant-loop-method : goal.invariant-loop-method
invariant-loop-method l = l.out.items ≡ l.initial.out.items ++ flat_map behind_comma (map method_name (take l.method-index l.methods))
