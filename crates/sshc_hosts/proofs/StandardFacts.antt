-- Worked examples of the definitions, by computing them. A line with a whole key is worked in StandardKey; more of
-- them, and lines with hashes, are tested in sshc_test_key_hosts.
use Rattle.std.proofs.Common.{◌≡◌, List, ℕ, [], ◌∷◌, ◌++◌, refl}
use Rattle.std.specs.Prelude.{codes}
use Rattle.sshc_hosts.specs.HostText.{host_text}
use Rattle.sshc_hosts.specs.declared.marks.Mark.TheVariants.{Recorded, Revoked}
use Rattle.sshc_hosts.specs.MatchingLines.{marked_as, matching}
use Rattle.sshc_hosts.specs.Learning.{added_line}

four_lines : List ℕ
four_lines = codes "[localhost]:13265 ssh-ed25519 K1" ++ 10 ∷ (codes "#pijul.org ssh-ed25519 K2x" ++ 10 ∷ (codes "pijul.org,37.120.161.53 ssh-ed25519 K2 a comment" ++ 10 ∷ (codes "pijul.org ssh-rsa" ++ 10 ∷ [])))

-- comments and lines of two fields count as lines, and match nothing
by_name : matching four_lines (codes "pijul.org") ≡ (3, marked_as Recorded (codes "K2")) ∷ []
unfolding four_lines
by_name = refl

by_address : matching four_lines (codes "37.120.161.53") ≡ (3, marked_as Recorded (codes "K2")) ∷ []
unfolding four_lines
by_address = refl

by_port : matching four_lines (codes "[localhost]:13265") ≡ (1, marked_as Recorded (codes "K1")) ∷ []
unfolding four_lines
by_port = refl

-- a prefix of a name is another name
by_front : matching four_lines (codes "pijul") ≡ []
unfolding four_lines
by_front = refl

-- a line marked `@revoked` matches by its second field; another mark is a host field like any other, and so is one that
-- is longer
two_marks : List ℕ
two_marks = codes "@revoked h ssh-ed25519 K3" ++ 10 ∷ (codes "@cert-authority h ssh-ed25519 K4" ++ 10 ∷ (codes "@revoked,h ssh-ed25519 K5" ++ 10 ∷ []))

by_mark : matching two_marks (codes "h") ≡ (1, marked_as Revoked (codes "K3")) ∷ (3, marked_as Recorded (codes "K5")) ∷ []
unfolding two_marks
by_mark = refl

the_mark_is_no_host : matching (codes "@revoked h ssh-ed25519 K3") (codes "@revoked") ≡ []
the_mark_is_no_host = refl

plain_host : host_text (codes "h") 22 ≡ codes "h"
unfolding host_text
plain_host = refl

-- a line of its own
open_line : added_line (codes "a") (codes "h k") ≡ 10 ∷ codes "h k" ++ 10 ∷ []
open_line = refl

empty_text : added_line [] (codes "h k") ≡ 10 ∷ codes "h k" ++ 10 ∷ []
empty_text = refl

closed_line : added_line (codes "a" ++ 10 ∷ []) (codes "h k") ≡ codes "h k" ++ 10 ∷ []
closed_line = refl
