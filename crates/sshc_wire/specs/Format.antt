-- A format says how a value is written, which values it has, and how it is read from the front of a list of bytes.
-- The format of a whole is made of those of its parts, a line for each; the code reads and writes part by part.
use Rattle.std.proofs.Common.{◌≡◌, ℕ, Bool, cond, List, ◌++◌, Option, Some, None, Result, Ok, Err}
use Rattle.sshc_wire.specs.Reads.{Reader, ◌>>=◌}
use Rattle.sshc_wire.specs.Wire.{IsBytes}

-- what is read is written so, and what is written is read again, whatever follows
pub record IsFormat {E A : Type 0} (text : A → List ℕ) (Fits : A → Type 0) (reader : Reader E A) : Type 0 where
  pub takes : (bytes : List ℕ) (x : A) (rest : List ℕ) → IsBytes bytes → reader bytes ≡ Ok (x, rest) → (bytes ≡ text x ++ rest) × Fits x
  pub again : (x : A) (rest : List ℕ) → Fits x → reader (text x ++ rest) ≡ Ok (x, rest)

abbrev pub done : {A E : Type 0} → A → Result A E
done x = Ok x

-- one part and then another
abbrev pub both_at : {E A B : Type 0} → Reader E A → Reader E B → Reader E (A × B)
both_at f g bytes = f bytes >>= λ x. g x.1 >>= λ y. Ok ((x.0, y.0), y.1)

-- the same value, made of its parts
abbrev pub made_at : {E A B : Type 0} → (A → B) → Reader E A → Reader E B
made_at make f bytes = f bytes >>= λ x. Ok (make x.0, x.1)

-- a value that passes a test
abbrev pub tested_at : {E A : Type 0} → (A → Bool) → E → Reader E A → Reader E A
tested_at test fault f bytes = f bytes >>= λ x. cond (test x.0) (Ok x) (Err fault)

-- faults seen as other faults
abbrev pub faults_as : {E D A : Type 0} → (E → D) → Result A E → Result A D
faults_as h (Ok x) = Ok x
faults_as h (Err e) = Err (h e)

abbrev pub part_at : {E D A : Type 0} → (E → D) → Reader E A → Reader D A
part_at h f bytes = faults_as h (f bytes)

-- a tag, and the fields of that tag
abbrev pub chosen_at : {E T B : Type 0} → Reader E T → (T → Reader E B) → Reader E B
chosen_at f g bytes = f bytes >>= λ x. g x.0 x.1

-- one of the values that have names
abbrev pub known : {E T : Type 0} → Option T → E → List ℕ → Result (T × List ℕ) E
known None fault rest = Err fault
known (Some x) fault rest = Ok (x, rest)

abbrev pub named_at : {E A T : Type 0} → (A → Option T) → E → Reader E A → Reader E T
named_at named fault f bytes = f bytes >>= λ s. known (named s.0) fault s.1

-- one part, and then another that depends on it
abbrev pub then_at : {E A B : Type 0} → Reader E A → (A → Reader E B) → Reader E (A × B)
then_at f g bytes = f bytes >>= λ x. g x.0 x.1 >>= λ y. Ok ((x.0, y.0), y.1)

-- no bytes at all
abbrev pub no_bytes_at : {E A : Type 0} → A → Reader E A
no_bytes_at x bytes = Ok (x, bytes)
