use Rattle.std.proofs.Common.{◌≡◌, ◌<◌, ◌^◌, length, take}
use Rattle.std.specs.List.{flat_map}
use Rattle.sshc_wire.specs.Names.{behind_comma}
use Rattle.sshc_wire.proofs.fitting.are_short.Given as goal

abbrev pub invariant-loop-name : goal.invariant-loop-name
invariant-loop-name l = record { small : l.size < 2 ^ 32; size : l.size ≡ length (flat_map behind_comma (take l.name-index l.names)) }
