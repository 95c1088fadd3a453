use Rattle.std.proofs.Common.{◌≡◌, drop}
use Rattle.std.specs.Prelude.{find}
use Rattle.sshc_proxy_policy.specs.PolicyNames.{is_named}
use Rattle.sshc_proxy_policy.proofs.named_key.first_named.Given as goal

-- none so far has the name
abbrev pub invariant-loop-key : goal.invariant-loop-key
invariant-loop-key l = find (is_named l.text) (drop l.key-index l.keys) ≡ find (is_named l.text) l.keys
