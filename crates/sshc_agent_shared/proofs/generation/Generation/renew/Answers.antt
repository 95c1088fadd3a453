use Rattle.sshc_agent_shared.proofs.Seams.{accounts_from}
use Rattle.sshc_agent_shared.proofs.generation.Generation.renew.Goals as goal

pub returns-in-Ok-clause-accounts : goal.returns-in-Ok-clause-accounts
returns-in-Ok-clause-accounts g c = accounts_from c.args.self.now _ c.args.live.now.items c.args.ended.now.items c.is_legal.ensures c.is_as_named.ensures.limit c.is_within.ensures c.requires.all (rw (c.as_slice.ensures.value, c.as_slice-2.ensures.value) at c.in-Ok.ensures.each) c.pass_on.ensures.together
