use Rattle.std.proofs.Common.{◌≡◌, length}
use Rattle.std.specs.Prelude.{filter}
use denote.Shadow.{shadow}
use denote.Text.{Utf8}
use Rattle.sshc_hosts.specs.MatchingLines.{parts_at}
use Rattle.sshc_audit.specs.Removing.{stays, joined_entries}
use Rattle.sshc_audit.proofs.Parts.{joined_any}
use Rattle.sshc_audit.proofs.removing.entries_without.Given as goal

abbrev pub invariant-entries : goal.invariant-entries
invariant-entries l =
    (joined_entries (filter (stays l.host) (parts_at 44 l.fn.field)) ≡ joined_any l.out (filter (stays l.host) (parts_at 44 l.left)))
    × shadow (Utf8 l.left)

abbrev pub decreases-entries : goal.decreases-entries
decreases-entries l = length l.left
