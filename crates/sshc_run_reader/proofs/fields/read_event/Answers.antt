use Rattle.std.proofs.Common.{arith}
use Rattle.sshc_run_reader.proofs.KindGrammar.{event_just}
use Rattle.sshc_run_reader.proofs.fields.read_event.Goals as goal

pub returns-clause-grammar : goal.returns-clause-grammar
returns-clause-grammar c = event_just c.args.kind c.args.fields.now (λ i. omega (arith, c.type_inv.fields i))
