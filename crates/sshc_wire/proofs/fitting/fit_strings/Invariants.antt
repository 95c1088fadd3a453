use Rattle.std.proofs.Common.{take}
use Rattle.std.specs.List.{All}
use Rattle.sshc_wire.specs.Wire.{IsShort}
use Rattle.sshc_wire.proofs.fitting.fit_strings.Given as goal

abbrev pub invariant-loop-one : goal.invariant-loop-one
invariant-loop-one l = All IsShort (take l.one-index l.strings)
