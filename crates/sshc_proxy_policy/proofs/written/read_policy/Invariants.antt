use Rattle.std.proofs.Common.{◌≡◌, ◌+◌, ◌≤◌, length}
use denote.Shadow.{shadow}
use denote.Text.{Utf8}
use Rattle.sshc_hosts.specs.MatchingLines.{parts_at}
use Rattle.sshc_proxy_policy.specs.WrittenPolicy.{after, rules_from, written_rules}
use Rattle.sshc_proxy_policy.proofs.written.read_policy.Given as goal

-- the rules so far and those of the lines that are left are all rules
abbrev pub invariant-lines : goal.invariant-lines
invariant-lines l =
    (written_rules l.keys l.hosts l.text ≡ after l.rules (rules_from l.keys l.hosts l.number (parts_at 10 l.left)))
    × (l.number + length l.left ≤ length l.text + 1)
    × shadow (Utf8 l.left)

abbrev pub decreases-lines : goal.decreases-lines
decreases-lines l = length l.left
