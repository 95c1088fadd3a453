-- Reading wire text from left to right: a part at the front, and the first fault (RFC 4251, section 5).
-- Each reader is a function on the whole list, to the value and the bytes after it; the code moves a cursor.
use Rattle.std.specs.Prelude.{◌≡◌, ℕ, Bool, not, List, [], ◌∷◌, length, take, drop, Result, Ok, Err, nat_lt, ◌==◌, if◌then◌else◌}
use Rattle.std.specs.Int.{Width, w32, byte_len, from_be_bytes}
use Rattle.std.specs.Str.{is_utf8}
use Rattle.sshc_wire.specs.declared.error.WireError.{WireError}
use Rattle.sshc_wire.specs.declared.error.WireError.TheVariants.{Short, NotText}

-- a value and the bytes after it, or the first fault
abbrev pub Reader : Type 0 → Type 0 → Type 0
Reader E A = List ℕ → Result (A × List ℕ) E

infixl 10 ◌>>=◌
abbrev pub ◌>>=◌ : {A B E : Type 0} → Result A E → (A → Result B E) → Result B E
(Ok x) >>= f = f x
(Err e) >>= f = Err e

-- A cursor's call returns the value that reading yields, and moves behind it. A refused cursor is unmoved.
abbrev pub Reads : {X A E : Type 0} → (X → A) → Result X E → List ℕ → List ℕ → Result (A × List ℕ) E → Type 0
Reads view (Ok x) old new read = read ≡ Ok (view x, new)
Reads view (Err e) old new read = (read ≡ Err e) × (new ≡ old)

unfoldable pub byte_at : Reader WireError ℕ
byte_at [] = Err Short
byte_at (b ∷ rest) = Ok (b, rest)

unfoldable pub number_at : Width → Reader WireError ℕ
number_at w bytes = if nat_lt (length bytes) (byte_len w) then Err Short else Ok (from_be_bytes w (take (byte_len w) bytes), drop (byte_len w) bytes)

-- each byte but 0 is true
unfoldable pub boolean_at : Reader WireError Bool
boolean_at bytes = do
  b ← byte_at bytes
  Ok (not (b.0 == 0), b.1)

unfoldable pub string_at : Reader WireError (List ℕ)
string_at bytes = do
  n ← number_at w32 bytes
  if nat_lt (length n.1) n.0 then Err Short else Ok (take n.0 n.1, drop n.0 n.1)

-- a text is a string all of whose bytes are UTF-8
unfoldable pub text_at : Reader WireError (List ℕ)
text_at bytes = do
  t ← string_at bytes
  if is_utf8 t.0 then Ok t else Err NotText
