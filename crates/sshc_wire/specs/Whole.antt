-- Formats that take all of the bytes, and strings that hold them.
use Rattle.std.proofs.Common.{◌≡◌, ℕ, zero, suc, ◌<◌, cond, eqb, List, [], ◌∷◌, length, Result, Ok, Err}
use Rattle.sshc_wire.specs.Wire.{IsBytes}
use Rattle.sshc_wire.specs.Reads.{Reader, ◌>>=◌}

-- a reader of all of the bytes
abbrev pub WholeReader : Type 0 → Type 0 → Type 0
WholeReader E A = List ℕ → Result A E

pub record IsWhole {E A : Type 0} (text : A → List ℕ) (Fits : A → Type 0) (reader : WholeReader E A) : Type 0 where
  pub takes : (bytes : List ℕ) (x : A) → IsBytes bytes → reader bytes ≡ Ok x → (bytes ≡ text x) × Fits x
  pub again : (x : A) → Fits x → reader (text x) ≡ Ok x

-- one value and nothing after it
abbrev pub whole_at : {E A : Type 0} → E → Reader E A → WholeReader E A
whole_at fault f bytes = f bytes >>= λ x. cond (eqb (length x.1) 0) (Ok x.0) (Err fault)

-- a string that holds it
abbrev pub framed_at : {E A : Type 0} → Reader E (List ℕ) → WholeReader E A → Reader E A
framed_at outer f bytes = outer bytes >>= λ s. f s.0 >>= λ x. Ok (x, s.1)

-- values one after another, up to the end
abbrev pub many_at : {E A : Type 0} → ℕ → Reader E A → WholeReader E (List A)
many_at n f [] = Ok []
many_at zero f (b ∷ bytes) = Ok []
many_at (suc n) f (b ∷ bytes) = f (b ∷ bytes) >>= λ x. many_at n f x.1 >>= λ xs. Ok (x.0 ∷ xs)

unfoldable pub all_at : {E A : Type 0} → Reader E A → WholeReader E (List A)
all_at f bytes = many_at (length bytes) f bytes

-- each value takes a byte
abbrev pub Takes : {E A : Type 0} → Reader E A → Type 0
Takes {E} {A} f = (bytes : List ℕ) (x : A) (rest : List ℕ) → f bytes ≡ Ok (x, rest) → length rest < length bytes
