use Rattle.std.proofs.Common.{refl}
use Rattle.sshc_wire.specs.Wire.{string_text, u32_text, bool_text}
use Rattle.sshc_run.proofs.login.accepted.Goals as goal

pub returns-clause-bytes : goal.returns-clause-bytes
unfolding string_text u32_text bool_text
returns-clause-bytes c = refl
