use Rattle.std.proofs.lemmas.Slice.Eq.{slice_eq-Decides}
use Rattle.sshc_key.proofs.Pairs.{pair_decides}
use Rattle.sshc_key.proofs.comparing.same_options.Goals as goal

pub returns : goal.returns
returns c = slice_eq-Decides pair_decides _ _ _ c.eq.ensures
