use Rattle.std.proofs.Common.{◌≡◌, take, All}
use Rattle.sshc_agent_shared.specs.Calls.{calls_of}
use Rattle.sshc_agent_shared.proofs.generation.Generation.torn.Given as goal

abbrev pub invariant-loop-seat : goal.invariant-loop-seat
invariant-loop-seat g l = All (λ p. calls_of p.conn l.self-inside.journal.items ≡ p.calls) (take l.seat-index l.seats)
