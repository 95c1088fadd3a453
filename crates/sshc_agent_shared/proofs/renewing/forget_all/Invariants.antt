use Rattle.std.proofs.Common.{◌≡◌, take}
use Rattle.sshc_agent_shared.specs.Generations.{forgotten_all}
use Rattle.sshc_agent_shared.proofs.renewing.forget_all.Given as goal

abbrev pub invariant-loop-conn : goal.invariant-loop-conn
invariant-loop-conn l = l.agent ≡ forgotten_all (take l.conn-index l.conns) l.initial.agent
