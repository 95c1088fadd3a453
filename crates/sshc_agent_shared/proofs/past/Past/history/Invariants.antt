use Rattle.std.proofs.Common.{◌≡◌, take}
use Rattle.sshc_agent_shared.proofs.past.Past.history.Given as goal

abbrev pub invariant-loop-e : goal.invariant-loop-e
invariant-loop-e l = l.history.items ≡ take l.e-index l.self.entries
