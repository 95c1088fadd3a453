use Rattle.std.proofs.Common.{◌≡◌, Bool, subst, sym}
use Rattle.std.specs.Bool.{Decides}
use Rattle.sshc_key.specs.KeyEq.{key_pair_eq-Decides}
use Rattle.sshc_agent_shared.proofs.ready.is_same_pair.Goals as goal

pub returns : goal.returns
returns c = subst (λ (b : Bool). Decides b (c.args.one.now ≡ c.args.other.now)) (sym c.eq.ensures) (key_pair_eq-Decides c.args.one.now c.args.other.now)
