use Rattle.std.proofs.Common.{◌≡◌, length}
use denote.Shadow.{shadow}
use denote.Text.{Utf8}
use Rattle.sshc_hosts.specs.MatchingLines.{parts_at}
use Rattle.sshc_audit.specs.Rewriting.{rewritten}
use Rattle.sshc_audit.specs.Removing.{removes_host}
use Rattle.sshc_audit.proofs.Parts.{joined_on}
use Rattle.sshc_audit.proofs.Loops.{left_without}
use Rattle.sshc_audit.proofs.removing.text_without.Given as goal

abbrev pub invariant-parts : goal.invariant-parts
invariant-parts l =
    (rewritten (removes_host l.text l.host) ≡ joined_on l.out (left_without l.host (parts_at 10 l.left)))
    × shadow (Utf8 l.left)

abbrev pub decreases-parts : goal.decreases-parts
decreases-parts l = length l.left
