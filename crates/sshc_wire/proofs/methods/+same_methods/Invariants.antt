use Rattle.std.proofs.Common.{length}
use Rattle.sshc_wire.proofs.methods.+same_methods.Given as goal

abbrev pub decreases-same_methods : goal.decreases-same_methods
decreases-same_methods c = length c.these.now
