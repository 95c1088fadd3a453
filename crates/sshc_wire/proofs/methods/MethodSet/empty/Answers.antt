use Rattle.std.proofs.Common.{sym, subst}
use Rattle.sshc_wire.specs.Methods.{HasNoDoubles}
use Rattle.sshc_wire.proofs.methods.MethodSet.empty.Goals as goal

pub invariant_of-result : goal.invariant_of-result
invariant_of-result c = subst HasNoDoubles (sym c.new.ensures.items) tt
