use Rattle.std.proofs.Common.{◌≡◌, length}
use denote.Shadow.{shadow}
use denote.Text.{Utf8}
use Rattle.sshc_hosts.specs.MatchingLines.{parts_at}
use Rattle.sshc_audit.specs.Hashing.{entry_needs, hashed_or_same}
use Rattle.sshc_audit.proofs.SaltLemmas.{SoFar}
use Rattle.sshc_audit.proofs.hashing.hashed_field.Given as goal

abbrev pub invariant-entries : goal.invariant-entries
invariant-entries g l =
    SoFar entry_needs hashed_or_same (parts_at 44 l.field) (parts_at 44 l.left) 44 (g.S.Salts.state l.initial.salts) (g.S.Salts.state l.salts) l.out
    × ((g.S.Salts.state l.salts).faults ≡ (g.S.Salts.state l.initial.salts).faults)
    × shadow (Utf8 l.left)

abbrev pub decreases-entries : goal.decreases-entries
decreases-entries g l = length l.left
