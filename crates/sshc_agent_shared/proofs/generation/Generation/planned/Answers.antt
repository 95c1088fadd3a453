use Rattle.sshc_agent_shared.proofs.Seams.{torn_left, torn_right}
use Rattle.sshc_agent_shared.proofs.generation.Generation.planned.Goals as goal

pub returns-in-Ok-Some-clause-cause : goal.returns-in-Ok-Some-clause-cause
returns-in-Ok-Some-clause-cause g c = torn_left c.args.self.now.of c.args.live.now c.args.ended.now c.in-Ok-Some.why (rw c.in-Ok-Some.field-0-is at c.in-Ok-Some.ensures)

pub returns-in-Ok-Some-torn-clause-cause : goal.returns-in-Ok-Some-torn-clause-cause
returns-in-Ok-Some-torn-clause-cause g c = torn_right c.args.self.now.of c.args.live.now c.args.ended.now c.in-Ok-Some-torn.why (rw c.in-Ok-Some-torn.field-0-is at c.in-Ok-Some-torn.ensures)
