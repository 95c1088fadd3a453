-- Formats of counted lists and of all remaining bytes, and how booleans are read (RFC 4251, section 5).
-- A counted list is its number and its values one after another; the code counts down.
use Rattle.std.proofs.Common.{◌≡◌, ℕ, zero, suc, ◌+◌, ◌*◌, ◌≤◌, List, [], ◌∷◌, length, Ok, Err}
use Rattle.std.specs.Prelude.{nat_lt, if◌then◌else◌}
use Rattle.sshc_wire.specs.Reads.{Reader, ◌>>=◌}
use Rattle.sshc_wire.specs.Whole.{WholeReader}

-- so many values, one after another
abbrev pub times_at : {E A : Type 0} → ℕ → Reader E A → Reader E (List A)
times_at zero f bytes = Ok ([], bytes)
times_at (suc n) f bytes = f bytes >>= λ x. times_at n f x.1 >>= λ xs. Ok (x.0 ∷ xs.0, xs.1)

-- each value takes so many bytes at least
abbrev pub TakesAtLeast : {E A : Type 0} → ℕ → Reader E A → Type 0
TakesAtLeast {E} {A} least f = (bytes : List ℕ) (x : A) (rest : List ℕ) → f bytes ≡ Ok (x, rest) → length rest + least ≤ length bytes

-- a number, and so many values of at least so many bytes; a number that the bytes can't hold is refused at once
unfoldable pub counted_at : {E A : Type 0} → ℕ → E → Reader E ℕ → Reader E A → Reader E (List A)
counted_at least fault number f bytes = number bytes >>= λ n. if nat_lt (length n.1) (n.0 * least) then Err fault else times_at n.0 f n.1

-- all remaining bytes
abbrev pub rest_at : {E : Type 0} → WholeReader E (List ℕ)
rest_at bytes = Ok bytes

-- a part, and then a format that takes all remaining bytes
abbrev pub last_at : {E A B : Type 0} → Reader E A → WholeReader E B → WholeReader E (A × B)
last_at f g bytes = f bytes >>= λ x. g x.1 >>= λ y. Ok (x.0, y)
