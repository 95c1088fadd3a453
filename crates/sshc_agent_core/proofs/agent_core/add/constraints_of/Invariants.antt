use Rattle.std.proofs.Common.{◌≡◌, length}
use Rattle.sshc_wire.specs.Whole.{all_at}
use Rattle.sshc_agent_core.specs.AgentTable.Add.{constraint_at, constraints_in, kept_in}
use Rattle.sshc_agent_core.proofs.agent_core.add.constraints_of.Given as goal

abbrev pub invariant-loop-c : goal.invariant-loop-c
invariant-loop-c l = constraints_in l.bytes ≡ kept_in (all_at constraint_at l.c) l.held

abbrev pub decreases-loop-c : goal.decreases-loop-c
decreases-loop-c l = length l.c
