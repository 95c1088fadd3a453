use Rattle.sshc_toy.proofs.Signatures.{is_signature, is_short}
use Rattle.sshc_toy.proofs.signer.signature_of.Goals as goal

pub returns-clause-whole : goal.returns-clause-whole
returns-clause-whole c = is_signature c.args.name.now c.args.body.now c.in_ok-out.out.items c.requires.name c.as_str-utf8.ensures.utf8 c.as_str-utf8.ensures.short c.told-body c.in_ok-out.ensures

pub returns-clause-short : goal.returns-clause-short
returns-clause-short c = is_short c.args.name.now c.args.body.now c.in_ok-out.out.items c.requires.name c.told-body c.in_ok-out.ensures
