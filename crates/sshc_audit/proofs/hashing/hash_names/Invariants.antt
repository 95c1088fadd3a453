use Rattle.std.proofs.Common.{◌≡◌, length}
use denote.Shadow.{shadow}
use denote.Text.{Utf8}
use Rattle.sshc_hosts.specs.MatchingLines.{parts_at}
use Rattle.sshc_audit.specs.Hashing.{part_needs, hashed_part}
use Rattle.sshc_audit.proofs.SaltLemmas.{SoFar}
use Rattle.sshc_audit.proofs.hashing.hash_names.Given as goal

abbrev pub invariant-parts : goal.invariant-parts
invariant-parts g l =
    SoFar part_needs hashed_part (parts_at 10 l.text) (parts_at 10 l.left) 10 (g.S.Salts.state l.initial.salts) (g.S.Salts.state l.salts) l.out
    × ((g.S.Salts.state l.salts).faults ≡ (g.S.Salts.state l.initial.salts).faults)
    × shadow (Utf8 l.left)

abbrev pub decreases-parts : goal.decreases-parts
decreases-parts g l = length l.left
