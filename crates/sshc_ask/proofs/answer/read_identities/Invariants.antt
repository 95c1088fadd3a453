use Rattle.std.proofs.Common.{◌≡◌, ◌-◌}
use Rattle.sshc_wire.specs.Counted.{times_at}
use Rattle.sshc_ask.specs.AgentCalls.Readings.{identity_at}
use Rattle.sshc_ask.proofs.Lists.{behind}
use Rattle.sshc_ask.proofs.answer.read_identities.Given as goal

-- the keys that were read, and then the remaining ones, are all of them
abbrev pub invariant-loop-taken : goal.invariant-loop-taken
invariant-loop-taken l = behind l.found.items (times_at (l.count - l._taken) identity_at l.c) ≡ times_at l.count identity_at l.fn.c
