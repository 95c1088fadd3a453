-- Parts of packets that are kept, and what a reader of them returns (RFC 4251, section 5). A part that is short or
-- isn't text is SshEncoding. Readings of whole lists; the code moves a cursor.
use Rattle.std.specs.Prelude.{◌≡◌, ℕ, ◌<◌, ◌^◌, Bool, true, List, [], ◌∷◌, ◌++◌, Result, Ok, Err}
use Rattle.std.specs.Int.{w32}
use Rattle.std.specs.Str.{is_utf8}
use Rattle.sshc_wire.specs.declared.error.WireError.{WireError}
use Rattle.sshc_wire.specs.Format.{part_at}
use Rattle.sshc_wire.specs.Grammar.{SpelledAs}
use Rattle.sshc_wire.specs.Reads.{Reader, ◌>>=◌, boolean_at, byte_at, number_at, string_at, text_at}
use Rattle.sshc_wire.specs.Whole.{WholeReader}
use Rattle.sshc_wire.specs.Wire.{IsShort, string_text, u32_text}
use Rattle.sshc_client_packets.specs.declared.error.PacketError.{PacketError}
use Rattle.sshc_client_packets.specs.declared.error.PacketError.TheVariants as errors

abbrev pub as_encoding : WireError → PacketError
as_encoding e = errors.SshEncoding

unfoldable pub u8_at : Reader PacketError ℕ
u8_at bytes = part_at as_encoding byte_at bytes

unfoldable pub u32_at : Reader PacketError ℕ
u32_at bytes = part_at as_encoding (number_at w32) bytes

unfoldable pub flag_at : Reader PacketError Bool
flag_at bytes = part_at as_encoding boolean_at bytes

unfoldable pub octets_at : Reader PacketError (List ℕ)
octets_at bytes = part_at as_encoding string_at bytes

unfoldable pub words_at : Reader PacketError (List ℕ)
words_at bytes = part_at as_encoding text_at bytes

-- a value at the front; the bytes after it are ignored
abbrev pub leading_at : {E A : Type 0} → Reader E A → WholeReader E A
leading_at f bytes = f bytes >>= λ x. Ok x.0

-- ---- which bytes spell a part

abbrev pub IsByte : ℕ → List ℕ → Type 0
IsByte n bytes = SpelledAs (λ b. b ∷ []) (λ b. b < 256) n bytes

abbrev pub IsNumber : ℕ → List ℕ → Type 0
IsNumber n bytes = SpelledAs u32_text (λ m. m < 2 ^ 32) n bytes

abbrev pub IsString : List ℕ → List ℕ → Type 0
IsString s bytes = SpelledAs string_text IsShort s bytes

abbrev pub IsText : List ℕ → List ℕ → Type 0
IsText t bytes = SpelledAs string_text (λ s. IsShort s × (is_utf8 s ≡ true)) t bytes

-- the bytes begin with the value's spelling
abbrev pub Leads : {A : Type 0} → (A → List ℕ → Type 0) → A → List ℕ → Type 0
Leads S x bytes = (front rest : List ℕ) × (bytes ≡ front ++ rest) × S x front

-- ---- what a call returns, in terms of reading the whole bytes

abbrev pub ReadsAll : {X A E : Type 0} → (X → A) → Result X E → Result A E → Type 0
ReadsAll view (Ok x) read = read ≡ Ok (view x)
ReadsAll view (Err e) read = read ≡ Err e

abbrev pub ReadsFront : {X A E : Type 0} → (X → A) → Result X E → List ℕ → Result (A × List ℕ) E → Type 0
ReadsFront view (Ok x) new read = read ≡ Ok (view x, new)
ReadsFront view (Err e) new read = read ≡ Err e

-- the same error, unless memory ran out
abbrev pub Fails : {A : Type 0} → PacketError → Result A PacketError → Type 0
Fails errors.NoMemory read = Unit {0}
Fails errors.SshEncoding read = read ≡ Err errors.SshEncoding

abbrev pub GivesAll : {X A : Type 0} → (X → A) → Result X PacketError → Result A PacketError → Type 0
GivesAll view (Ok x) read = read ≡ Ok (view x)
GivesAll view (Err e) read = Fails e read

-- the part at the front, mapped by `view`, and the bytes after it
abbrev pub Gives : {X A : Type 0} → (X → A) → Result X PacketError → List ℕ → Result (A × List ℕ) PacketError → Type 0
Gives view (Ok x) new read = read ≡ Ok (view x, new)
Gives view (Err e) new read = Fails e read
