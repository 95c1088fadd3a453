use Rattle.std.proofs.Common.{◌≡◌, ◌-◌}
use Rattle.sshc_wire.specs.Counted.{times_at}
use Rattle.sshc_wire.proofs.ReadingLemmas.{behind}
use Rattle.sshc_wire.proofs.reading.list.parts.Given as goal

-- the parts read so far, followed by those still to be read, are all of them
abbrev pub invariant-loop-taken : goal.invariant-loop-taken
invariant-loop-taken g l = behind l.parts (times_at (l.count - l._taken) g.T.Part.at l.c) ≡ times_at l.count g.T.Part.at l.fn.c
