use Rattle.std.proofs.Common.{◌≡◌, ◌+◌, ◌≤◌, ◌++◌, length, map}
use denote.Shadow.{shadow}
use denote.Text.{Utf8}
use Rattle.std.specs.List.{filter_map, enumerate_from}
use Rattle.sshc_hosts.specs.MatchingLines.{line_seen, matching, numbered_key, parts_at}
use Rattle.sshc_hosts.proofs.lines.matching_lines.Given as goal

abbrev pub invariant-lines : goal.invariant-lines
invariant-lines l =
    (matching l.text l.host ≡ map line_seen l.found.items ++ filter_map (numbered_key l.host) (enumerate_from l.number (parts_at 10 l.left)))
    × (l.number + length l.left ≤ length l.text + 1)
    × shadow (Utf8 l.left)

abbrev pub decreases-lines : goal.decreases-lines
decreases-lines l = length l.left
