use Rattle.std.proofs.lemmas.Bool.Decides.{same_from_decides}
use Rattle.sshc_key.specs.KeyEq.{public_eq-Decides}
use Rattle.sshc_key.proofs.comparing.PublicKeyPartialEq.eq.Goals as goal

pub returns : goal.returns
returns c = same_from_decides _ _ c.is_same.ensures (public_eq-Decides _ _)
