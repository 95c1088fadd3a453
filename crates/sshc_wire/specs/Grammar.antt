-- A grammar says which bytes spell a value, and how it is read from the front of a list of bytes. Where each value has one spelling,
-- a format (Format.antt) says it; a boolean has many, since each byte but 0 is true (RFC 4251, section 5).
-- The grammar of a whole is made of those of its parts, a line for each; the code reads part by part.
use Rattle.std.proofs.Common.{◌≡◌, ℕ, ◌<◌, ◌≤◌, ◌^◌, Bool, true, not, eqb, List, [], ◌∷◌, ◌++◌, length, Result, Ok, Err}
use Rattle.sshc_wire.specs.Wire.{IsBytes, u32_text}
use Rattle.sshc_wire.specs.Reads.{Reader, ◌>>=◌}
use Rattle.sshc_wire.specs.Whole.{WholeReader}

-- these bytes spell this value
abbrev pub Spelling : Type 0 → Type 1
Spelling A = A → List ℕ → Type 0

-- what is read is spelled by the bytes that were taken, and what is spelled is read, whatever follows
pub record IsGrammar {E A : Type 0} (Spells : A → List ℕ → Type 0) (reader : Reader E A) : Type 0 where
  pub takes : (bytes : List ℕ) (x : A) (rest : List ℕ) → IsBytes bytes → reader bytes ≡ Ok (x, rest) → (front : List ℕ) × (bytes ≡ front ++ rest) × Spells x front
  pub again : (x : A) (front rest : List ℕ) → Spells x front → reader (front ++ rest) ≡ Ok (x, rest)

-- the same of all of the bytes
pub record IsWholeGrammar {E A : Type 0} (Spells : A → List ℕ → Type 0) (reader : WholeReader E A) : Type 0 where
  pub takes : (bytes : List ℕ) (x : A) → IsBytes bytes → reader bytes ≡ Ok x → Spells x bytes
  pub again : (x : A) (bytes : List ℕ) → Spells x bytes → reader bytes ≡ Ok x

-- ---- parts

-- a value with one spelling
abbrev pub SpelledAs : {A : Type 0} → (A → List ℕ) → (A → Type 0) → A → List ℕ → Type 0
SpelledAs t F x bytes = (bytes ≡ t x) × F x

-- a boolean is one byte, which is 0 just where it is false
abbrev pub IsFlag : Bool → List ℕ → Type 0
IsFlag x bytes = (b : ℕ) × (bytes ≡ b ∷ []) × (b < 256) × (not (eqb b 0) ≡ x)

-- ---- parts in a row

-- the bytes of the one, and then those of the other
abbrev pub InRow : {A B : Type 0} → (A → List ℕ → Type 0) → (B → List ℕ → Type 0) → A × B → List ℕ → Type 0
InRow S T p bytes = (a : List ℕ) × (b : List ℕ) × (bytes ≡ a ++ b) × S p.0 a × T p.1 b

abbrev pub Passing : {A : Type 0} → (A → Bool) → (A → List ℕ → Type 0) → A → List ℕ → Type 0
Passing test S x bytes = S x bytes × (test x ≡ true)

-- a value that another is converted to, where it can be
abbrev pub converted_at : {E A B : Type 0} → (A → Result B E) → Reader E A → Reader E B
converted_at convert f bytes = f bytes >>= λ x. convert x.0 >>= λ y. Ok (y, x.1)

abbrev pub Converted : {E A B : Type 0} → (A → Result B E) → (A → List ℕ → Type 0) → B → List ℕ → Type 0
Converted {A = A} convert S y bytes = (x : A) × S x bytes × (convert x ≡ Ok y)

-- a tag, and the fields of that tag
abbrev pub Tagged : {T B : Type 0} → (T → List ℕ → Type 0) → (B → T) → (B → List ℕ → Type 0) → B → List ℕ → Type 0
Tagged S tag_of U b bytes = (a : List ℕ) × (c : List ℕ) × (bytes ≡ a ++ c) × S (tag_of b) a × U b c

-- no bytes at all
abbrev pub IsNothing : {A : Type 0} → A → A → List ℕ → Type 0
IsNothing x a bytes = (a ≡ x) × (bytes ≡ [])

-- ---- counted lists

-- so many values, one after another
abbrev pub SpellEach : {A : Type 0} → (A → List ℕ → Type 0) → List A → List ℕ → Type 0
SpellEach S [] bytes = bytes ≡ []
SpellEach S (x ∷ xs) bytes = (a : List ℕ) × (b : List ℕ) × (bytes ≡ a ++ b) × S x a × SpellEach S xs b

-- a count below 2^32, and so many values (RFC 4251, section 5: uint32)
abbrev pub IsCounted : {A : Type 0} → (A → List ℕ → Type 0) → List A → List ℕ → Type 0
IsCounted S xs bytes = (body : List ℕ) × (bytes ≡ u32_text (length xs) ++ body) × (length xs < 2 ^ 32) × SpellEach S xs body

-- each value takes at least so many bytes
abbrev pub TakesAtLeast : {A : Type 0} → ℕ → (A → List ℕ → Type 0) → Type 0
TakesAtLeast {A} least S = (x : A) (bytes : List ℕ) → S x bytes → least ≤ length bytes

-- ---- a value at the end of the bytes

-- no bytes follow the value
abbrev pub finished : {E A : Type 0} → E → A × List ℕ → Result A E
finished fault (x, []) = Ok x
finished fault (x, (b ∷ rest)) = Err fault

abbrev pub finished_at : {E A : Type 0} → E → Reader E A → WholeReader E A
finished_at fault f bytes = f bytes >>= λ x. finished fault x
