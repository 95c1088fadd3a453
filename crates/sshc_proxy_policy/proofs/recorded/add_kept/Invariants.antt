use Rattle.std.proofs.Common.{◌≡◌, ◌++◌, drop}
use Rattle.sshc_proxy_policy.specs.PolicyNames.{kept}
use Rattle.sshc_proxy_policy.proofs.recorded.add_kept.Given as goal

abbrev pub invariant-loop-line : goal.invariant-loop-line
invariant-loop-line l = l.blobs ++ kept l.revoked (drop l.line-index l.known) ≡ l.initial.blobs ++ kept l.revoked l.known
