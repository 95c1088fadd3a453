use Rattle.std.proofs.Common.{◌≡◌, length}
use denote.Shadow.{shadow}
use denote.Text.{Utf8}
use Rattle.sshc_hosts.specs.MatchingLines.{parts_at, third_field}
use Rattle.sshc_hosts.proofs.lines.behind_host.Given as goal

abbrev pub invariant-entries : goal.invariant-entries
invariant-entries l = (third_field l.host (parts_at 32 l.left) ≡ third_field l.host (parts_at 32 l.fn.line)) × shadow (Utf8 l.left)

abbrev pub decreases-entries : goal.decreases-entries
decreases-entries l = length l.left
