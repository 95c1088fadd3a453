use Rattle.std.proofs.lemmas.Bool.Decides.{same_from_decides}
use Rattle.sshc_key.specs.KeyEq.{hashed_pair_eq-Decides}
use Rattle.sshc_key.proofs.comparing.PrivateKeyWithHashAlgPartialEq.eq.Goals as goal

pub returns : goal.returns
returns c = same_from_decides _ _ c.is_same.ensures (hashed_pair_eq-Decides _ _)
