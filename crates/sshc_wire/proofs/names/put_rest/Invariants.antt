use Rattle.std.proofs.Common.{◌≡◌, ◌++◌, take}
use Rattle.std.specs.List.{flat_map}
use Rattle.sshc_wire.specs.Names.{behind_comma}
use Rattle.sshc_wire.proofs.names.put_rest.Given as goal

abbrev pub invariant-loop-name : goal.invariant-loop-name
invariant-loop-name l = l.out.items ≡ l.initial.out.items ++ flat_map behind_comma (take l.name-index l.names)
