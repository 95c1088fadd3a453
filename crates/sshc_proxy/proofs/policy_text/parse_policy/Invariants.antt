use Rattle.std.proofs.Common.{◌≡◌, ◌+◌, ◌≤◌, ◌++◌, length}
use denote.Shadow.{shadow}
use denote.Text.{Utf8}
use Rattle.std.specs.List.{filter_map}
use Rattle.sshc_hosts.specs.MatchingLines.{parts_at}
use Rattle.sshc_proxy.specs.Policy.{bad_line, first_bad, rule_of, rules}
use Rattle.sshc_proxy.proofs.policy_text.parse_policy.Given as goal

-- the rules so far and those of the lines that are left are all rules, and no line so far is bad
abbrev pub invariant-lines : goal.invariant-lines
invariant-lines l =
    (rules l.text ≡ l.rules ++ filter_map rule_of (parts_at 10 l.left))
    × (bad_line l.text ≡ first_bad l.number (parts_at 10 l.left))
    × (l.number + length l.left ≤ length l.text + 1)
    × shadow (Utf8 l.left)

abbrev pub decreases-lines : goal.decreases-lines
decreases-lines l = length l.left
