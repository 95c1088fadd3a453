use Rattle.std.proofs.Common.{arith}
use Rattle.sshc_key.specs.KeyLaws.Blobs.{is_front}
use Rattle.sshc_key.proofs.parsing.parse_public_key.Goals as goal

pub returns-in-Ok-clause-grammar : goal.returns-in-Ok-clause-grammar
returns-in-Ok-clause-grammar c = is_front c.args.blob.now (λ i. omega (arith, c.type_inv.blob i))

pub returns-in-Err-clause-grammar : goal.returns-in-Err-clause-grammar
returns-in-Err-clause-grammar c = is_front c.args.blob.now (λ i. omega (arith, c.type_inv.blob i))
