use Rattle.std.proofs.Common.{arith}
use Rattle.sshc_run_reader.proofs.Longest.{spelled_are_read, taken_are_longest}
use Rattle.sshc_run_reader.proofs.laws.script_laws.Goals as goal

pub returns-clause-front : goal.returns-clause-front
returns-clause-front c = taken_are_longest c.args.most c.args.script.now (λ i. omega (arith, c.type_inv.script i))

pub returns-clause-spelled : goal.returns-clause-spelled
returns-clause-spelled c = spelled_are_read
