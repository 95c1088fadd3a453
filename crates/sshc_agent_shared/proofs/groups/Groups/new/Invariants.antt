use Rattle.std.proofs.Common.{◌≡◌, ◌==◌, ℕ, filter, take}
use Rattle.sshc_agent_shared.specs.Groups.{entries_at}
use Rattle.sshc_agent_shared.proofs.groups.Groups.new.Given as goal

abbrev pub invariant-loop-e : goal.invariant-loop-e
invariant-loop-e l = (conn : ℕ) → entries_at l.groups conn ≡ filter (λ e. e.conn == conn) (take l.e-index l.journal)
