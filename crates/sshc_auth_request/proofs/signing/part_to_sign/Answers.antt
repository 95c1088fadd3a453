use Rattle.std.proofs.Common.{arith, append_assoc}
use Rattle.sshc_auth_request.specs.RequestTexts.{signed, unsigned_request}
use Rattle.sshc_auth_request.proofs.signing.part_to_sign.Goals as goal

pub returns : goal.returns
unfolding signed unsigned_request
returns c = grind (arith, append_assoc)
