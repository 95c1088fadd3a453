use Rattle.std.proofs.Common.{◌≡◌, ℕ, List, length}
use denote.Shadow.{shadow}
use denote.Text.{Utf8}
use Rattle.sshc_hosts.specs.MatchingLines.{parts_at}
use Rattle.sshc_audit.specs.Rewriting.{rewritten, left}
use Rattle.sshc_audit.specs.Doubled.{undoubled, drops_doubled, IsSeen}
use Rattle.sshc_audit.proofs.Parts.{joined_on}
use Rattle.sshc_audit.proofs.doubled.drop_doubled.Given as goal

abbrev pub invariant-parts : goal.invariant-parts
invariant-parts l =
    ((earlier : List (List ℕ)) × IsSeen l.seen earlier
    × (rewritten (drops_doubled l.text) ≡ joined_on l.out (left (undoubled earlier (parts_at 10 l.left)))))
    × shadow (Utf8 l.left)

abbrev pub decreases-parts : goal.decreases-parts
decreases-parts l = length l.left
