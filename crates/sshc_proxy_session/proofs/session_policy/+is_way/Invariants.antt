use Rattle.std.proofs.Common.{length}
use Rattle.sshc_proxy_session.proofs.session_policy.+is_way.Given as goal

abbrev pub decreases-is_way : goal.decreases-is_way
decreases-is_way c = length c.via.now
