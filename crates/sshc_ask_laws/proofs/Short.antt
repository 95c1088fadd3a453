-- Strings inside a message of bounded length, and strings that are read back.
use Rattle.std.proofs.Common.{◌≡◌, ℕ, ◌+◌, ◌≤◌, List, [], ◌++◌, length, Ok, refl, sym, ap, ◌∙◌, true, arith, length-append}
use Rattle.std.proofs.lemmas.List.{append-nil}
use Rattle.std.specs.Str.{is_utf8}
use Rattle.std.proofs.lemmas.Str.{IsUtf8-from_ascii, is_utf8-from_IsUtf8}
use Rattle.std.proofs.lemmas.Str.Ascii.{IsAscii-from_all}
use Rattle.sshc_wire.specs.Reads.{string_at}
use Rattle.sshc_wire.specs.Wire.{IsShort, string_text, u32_text}
use Rattle.sshc_wire.specs.PartsLaws.{strings}

pub length-u32_text : (n : ℕ) → length (u32_text n) ≡ 4
unfolding u32_text
length-u32_text n = refl

pub length-string_text : (s : List ℕ) → length (string_text s) ≡ 4 + length s
unfolding string_text
length-string_text s = length-append (u32_text (length s)) s ∙ ap (λ (k : ℕ). k + length s) (length-u32_text (length s))

-- a string at the front of a short message is short
pub short_front : (s rest : List ℕ) → length (string_text s ++ rest) ≤ 262144 → IsShort s
short_front s rest few = omega (arith, few, length-append (string_text s) rest, length-string_text s)

pub short_alone : (s : List ℕ) → length (string_text s) ≤ 262144 → IsShort s
short_alone s few = omega (arith, few, length-string_text s)

-- a string with no bytes after it is read back
pub string_alone : (s : List ℕ) → IsShort s → string_at (string_text s) ≡ Ok (s, [])
string_alone s short = ap string_at (sym (append-nil (string_text s))) ∙ strings.again s [] short

-- the empty comment is a text
pub no_text : is_utf8 [] ≡ true
no_text = is_utf8-from_IsUtf8 [] (IsUtf8-from_ascii [] (IsAscii-from_all [] (λ k d within. absurd (omega (arith, within)))))
