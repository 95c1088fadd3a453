use Rattle.std.proofs.Common.{◌≡◌, ◌++◌, length, map}
use denote.Shadow.{shadow}
use denote.Text.{Utf8}
use Rattle.std.specs.Prelude.{filter}
use Rattle.sshc_hosts.specs.MatchingLines.{parts_at}
use Rattle.sshc_proxy_policy.specs.WrittenPolicy.{fields, is_filled}
use Rattle.sshc_proxy_policy.proofs.rule_line.fields.Given as goal

-- the fields so far and those of what is left are all
abbrev pub invariant-parts : goal.invariant-parts
invariant-parts l = (map (λ part. part.now) l.parts.items ++ filter is_filled (parts_at 32 l.left) ≡ fields l.line) × shadow (Utf8 l.left)

abbrev pub decreases-parts : goal.decreases-parts
decreases-parts l = length l.left
