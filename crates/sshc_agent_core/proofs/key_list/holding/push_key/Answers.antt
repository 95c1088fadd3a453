use Rattle.sshc_agent_core.proofs.StoredLemmas.{pushed, pushed_keyed}
use Rattle.sshc_agent_core.proofs.key_list.holding.push_key.Goals as goal

pub returns-clause-added : goal.returns-clause-added
returns-clause-added c = pushed _ _ c.args.name c.args.key c.requires.keyed c.requires.named c.requires.absent c.in-Ok.ensures.entries

pub returns-clause-keyed : goal.returns-clause-keyed
returns-clause-keyed c = pushed_keyed _ _ c.args.name c.args.key c.requires.keyed c.requires.named c.requires.absent c.in-Ok.ensures.entries
