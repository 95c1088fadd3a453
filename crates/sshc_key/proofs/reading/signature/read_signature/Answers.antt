use Rattle.sshc_wire.specs.FormatLaws.{reads_just}
use Rattle.sshc_key.specs.KeyLaws.Keys.{signatures}
use Rattle.sshc_key.proofs.reading.signature.read_signature.Goals as goal

pub returns-in-Ok-clause-grammar : goal.returns-in-Ok-clause-grammar
returns-in-Ok-clause-grammar c = reads_just signatures c.args.c.now c.rest.ensures.bytes

pub returns-in-Err-clause-grammar : goal.returns-in-Err-clause-grammar
returns-in-Err-clause-grammar c = reads_just signatures c.args.c.now c.rest.ensures.bytes
