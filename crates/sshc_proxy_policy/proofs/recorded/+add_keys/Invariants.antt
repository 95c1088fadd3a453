use Rattle.std.proofs.Common.{length}
use Rattle.sshc_proxy_policy.proofs.recorded.+add_keys.Given as goal

abbrev pub decreases-add_keys : goal.decreases-add_keys
decreases-add_keys c = length c.names.now
