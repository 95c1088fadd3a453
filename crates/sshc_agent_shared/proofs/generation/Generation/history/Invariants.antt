use Rattle.std.proofs.Common.{◌≡◌, take}
use Rattle.sshc_agent_shared.proofs.generation.Generation.history.Given as goal

abbrev pub invariant-loop-e : goal.invariant-loop-e
invariant-loop-e g l = l.history.items ≡ take l.e-index l.self-inside.journal.items
