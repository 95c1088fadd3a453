use Rattle.std.proofs.Common.{arith}
use Rattle.sshc_key.specs.KeyLaws.Blobs.{is_whole}
use Rattle.sshc_key.proofs.parsing.parse_whole_public_key.Goals as goal

pub returns-then-is_empty-clause-grammar : goal.returns-then-is_empty-clause-grammar
returns-then-is_empty-clause-grammar c = is_whole c.args.blob.now (λ i. omega (arith, c.type_inv.blob i))

pub returns-else-is_empty-clause-grammar : goal.returns-else-is_empty-clause-grammar
returns-else-is_empty-clause-grammar c = is_whole c.args.blob.now (λ i. omega (arith, c.type_inv.blob i))

pub returns-in-Err-clause-grammar : goal.returns-in-Err-clause-grammar
returns-in-Err-clause-grammar c = is_whole c.args.blob.now (λ i. omega (arith, c.type_inv.blob i))
