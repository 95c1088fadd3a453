use Rattle.sshc_wire.specs.Wire.{IsBytes}
use Rattle.sshc_wire.specs.FormatLaws.{reads_just}
use Rattle.sshc_key.specs.KeyLaws.Pairs.{pairs}
use Rattle.sshc_key.proofs.reading.pair.read_key_pair.Goals as goal

pub returns-in-Ok-clause-grammar : goal.returns-in-Ok-clause-grammar
returns-in-Ok-clause-grammar c =
    let bytes : IsBytes c.args.c.now = c.rest.ensures.bytes in
    reads_just pairs c.args.c.now bytes

pub returns-in-Err-clause-grammar : goal.returns-in-Err-clause-grammar
returns-in-Err-clause-grammar c =
    let bytes : IsBytes c.args.c.now = c.rest.ensures.bytes in
    reads_just pairs c.args.c.now bytes
