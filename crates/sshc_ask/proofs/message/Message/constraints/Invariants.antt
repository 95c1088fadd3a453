use Rattle.std.proofs.Common.{◌≡◌, ◌++◌, take}
use Rattle.sshc_ask.specs.AgentCalls.Frames.{constraints_text}
use Rattle.sshc_ask.proofs.message.Message.constraints.Given as goal

-- the constraints that were written so far
abbrev pub invariant-loop-constraint : goal.invariant-loop-constraint
invariant-loop-constraint l = l.self ≡ l.initial.self ++ constraints_text (take l.constraint-index l.constraints)
