-- Worked examples, computed from the definitions.
use Rattle.std.proofs.Common.{◌≡◌, refl}
use Rattle.std.specs.Prelude.{codes}
use Rattle.sshc_audit.specs.Lines.{line_of}
use Rattle.sshc_audit.specs.Rewriting.{rewritten}
use Rattle.sshc_audit.specs.Doubled.{drops_doubled}
use Rattle.sshc_audit.specs.Removing.{removes_host}
use Rattle.sshc_audit.specs.Hashing.{names_of}

-- the second of two lines with one host field and one third field is dropped, whatever follows; a comment stays
a_doubled_line : rewritten (drops_doubled (codes "a n k x\n#c\na n k y\n")) ≡ codes "a n k x\n#c\n"
unfolding line_of
a_doubled_line = refl

-- a mark distinguishes two lines, and a part marked `@b` isn't a line
marks_tell_apart : rewritten (drops_doubled (codes "a n k\n@revoked a n k\n@b a n k\n@b a n k")) ≡ codes "a n k\n@revoked a n k\n@b a n k\n@b a n k"
unfolding line_of
marks_tell_apart = refl

-- one of two names is removed
one_of_two_names : rewritten (removes_host (codes "a,b n k\n") (codes "a")) ≡ codes "b n k\n"
unfolding line_of
one_of_two_names = refl

-- a line that loses its last name is dropped, and one that loses a name loses what would make it a comment or a mark
no_comment_is_made : rewritten (removes_host (codes "a,#b,@c n k\na,#b,d n k\n#a n k\ne,#f n k") (codes "a")) ≡ codes "d n k\n#a n k\ne,#f n k"
unfolding line_of
no_comment_is_made = refl

-- the entries that need a salt: each entry of a line that isn't empty and isn't hashed
names_that_need_salts : names_of (codes "a,,b n k\n|1|x,c n k\n#d n k\n@e f n k\n@revoked g n k\nh n") ≡ 4
unfolding line_of
names_that_need_salts = refl
