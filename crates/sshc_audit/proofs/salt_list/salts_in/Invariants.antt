use Rattle.std.proofs.Common.{◌≡◌, ◌++◌, length}
use denote.Shadow.{shadow}
use denote.Text.{Utf8}
use Rattle.sshc_hosts.specs.MatchingLines.{parts_at}
use Rattle.sshc_audit.specs.SaltLines.{salts_of}
use Rattle.sshc_audit.proofs.salt_list.salts_in.Given as goal

abbrev pub invariant-lines : goal.invariant-lines
invariant-lines l = (salts_of (parts_at 10 l.text) ≡ l.salts.items ++ salts_of (parts_at 10 l.left)) × shadow (Utf8 l.left)

abbrev pub decreases-lines : goal.decreases-lines
decreases-lines l = length l.left
