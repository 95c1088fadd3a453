use Rattle.std.proofs.Common.{arith}
use Rattle.sshc_agent_shared.proofs.Seams.{forgotten_at}
use Rattle.sshc_agent_shared.proofs.renewing.forget_all.Goals as goal

pub loop-conn-preserved : goal.loop-conn-preserved
loop-conn-preserved c = forgotten_at c.args.conns.now c.loop-conn.conn-index c.args.agent.now c.loop-conn.agent c.forget.new.self (omega (arith, c.loop-conn-test.true)) c.loop-conn.invariant c.forget.ensures.list
