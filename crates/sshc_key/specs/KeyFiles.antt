-- Keys in files: what a loader returns for known files, and which faults it may return.
-- The definitions look the path up in a list of files and part a whole text; the code asks the files for it.
use Rattle.std.specs.Prelude.{◌≡◌, ℕ, Bool, false, not, ◌≤◌, List, [], ◌∷◌, length, map, find, nat_lt, ◌==◌, bytes_eq, Option, Some, None, option_map, Result, Ok, Err, IsErrOf, if◌then◌else◌}
use Rattle.std.specs.List.{position_or_len, before_first, after_first}
use Rattle.std.specs.Char.{is_whitespace}
use Rattle.std.specs.Str.{chars, encode_utf8_all, trim, trim_start, trim_end}
use Rattle.std.specs.Str.Lines.{lines}
use Rattle.sshc_wire.specs.declared.files.Found.{Found}
use Rattle.sshc_wire.specs.declared.files.Found.TheVariants as found
use Rattle.sshc_wire.specs.Contents.{bytes_of, found_in}
use Rattle.sshc_wire.specs.Faults.{Rose}
use Rattle.sshc_key.specs.declared.error.Error.{Error}
use Rattle.sshc_key.specs.declared.error.Error.TheVariants.{CouldNotReadKey, SshKey, Utf8, ReadFault}
use Rattle.sshc_key.specs.Gives.{Fails}
use Rattle.sshc_key.specs.KeyGrammar.{Key, plain, certificate, key_name}
use Rattle.sshc_key.specs.KeyText.{decoded_key}

-- ---- what a loader returns

-- paths and their bytes
abbrev pub Told : Type 0
Told = List (List ℕ × List ℕ)

-- a failed read is returned as such, and each other error is the one that is named
abbrev pub FailsReading : {Y : Type 0} → Error → Result Y Error → Type 0
FailsReading ReadFault outcome = Unit {0}
FailsReading e outcome = Fails e outcome

abbrev pub GivesReading : {X Y : Type 0} → (X → Y) → Result X Error → Result Y Error → Type 0
GivesReading view (Ok x) outcome = outcome ≡ Ok (view x)
GivesReading view (Err e) outcome = FailsReading e outcome

-- where the files are known, the result is the one for these files, or that a read failed
abbrev pub AnswersBy : {X Y : Type 0} → (X → Y) → Result X Error → Option Told → (Told → Result Y Error) → Type 0
AnswersBy view result None outcome = Unit {0}
AnswersBy view result (Some files) outcome = GivesReading view result (outcome files)

-- a count never falls; a failed read is returned only where it rose, and with every other result it stays
pub record HasReadCause {T : Type 0} (before now : ℕ) (result : Result T Error) : Type 0 where
  pub later : before ≤ now
  pub fault : IsErrOf result ReadFault → Rose before now
  pub same : (IsErrOf result ReadFault → ⊥) → now ≡ before

-- the texts before and after the first character that passes
abbrev pub at_first : (ℕ → Bool) → List ℕ → Option (List ℕ × List ℕ)
at_first test all = if nat_lt (position_or_len test all) (length all) then Some (before_first test all, after_first test all) else None

-- ---- certificate files: a name, the base64 of a certificate and what follows, with single spaces between them

abbrev pub is_space : ℕ → Bool
is_space b = b == 32

-- the texts before and after the first space
unfoldable pub at_space : List ℕ → Option (List ℕ × List ℕ)
at_space text = at_first is_space text

-- the key has to be a certificate of this name
abbrev pub named_certificate : List ℕ → Key → Result Key Error
named_certificate name (plain k) = Err SshKey
named_certificate name (certificate nonce key says signer signature) =
    if bytes_eq (key_name (certificate nonce key says signer signature)) name then Ok (certificate nonce key says signer signature) else Err SshKey

abbrev pub certificate_named : List ℕ → Result Key Error → Result Key Error
certificate_named name (Ok key) = named_certificate name key
certificate_named name (Err e) = Err e

abbrev pub certificate_fields : Option (List ℕ × List ℕ) → Result Key Error
certificate_fields None = Err CouldNotReadKey
certificate_fields (Some fields) = certificate_named fields.0 (decoded_key (before_first is_space fields.1))

-- the certificate of a file's text; white space at its end doesn't count
unfoldable pub certificate_in : List ℕ → Result Key Error
certificate_in text = certificate_fields (at_space (trim_end text))

abbrev pub certificate_found : Found → Result Key Error
certificate_found found.NotOpened = Err CouldNotReadKey
certificate_found found.NotText = Err Utf8
certificate_found (found.Text text) = certificate_in text

-- the certificate of the file at a path
abbrev pub certificate_at_path : List ℕ → Told → Result Key Error
certificate_at_path path files = certificate_found (found_in (bytes_of files path))

-- ---- public key files: a line with the base64 of a key, or with a name, that base64 and a comment

-- neither blank nor begun by `#`
abbrev pub is_key_line : List ℕ → Bool
is_key_line [] = false
is_key_line (b ∷ line) = not (b == 35)

-- the first such line, after white space at its two ends is trimmed
unfoldable pub key_line : List ℕ → Option (List ℕ)
key_line text = find is_key_line (map trim (lines text))

-- the texts before and after the first character that is white space
unfoldable pub at_white_space : List ℕ → Option (List ℕ × List ℕ)
at_white_space text = option_map (λ parts. (encode_utf8_all parts.0, encode_utf8_all parts.1)) (at_first is_whitespace (chars text))

-- the first word of what follows the name, and the trimmed comment behind it
abbrev pub with_comment : List ℕ → Option (List ℕ × List ℕ) → List ℕ × List ℕ
with_comment key None = (key, [])
with_comment key (Some parts) = (parts.0, trim parts.1)

abbrev pub after_name : List ℕ → Option (List ℕ × List ℕ) → List ℕ × List ℕ
after_name line None = (line, [])
after_name line (Some parts) = with_comment (trim_start parts.1) (at_white_space (trim_start parts.1))

-- the base64 and the comment of a line: one word is the base64; else it is the second word, and what follows, trimmed, is the comment
unfoldable pub key_fields : List ℕ → List ℕ × List ℕ
key_fields line = after_name line (at_white_space line)

abbrev pub commented_key : List ℕ → Result Key Error → Result (Key × List ℕ) Error
commented_key comment (Ok key) = Ok (key, comment)
commented_key comment (Err e) = Err e

abbrev pub key_of_line : Option (List ℕ) → Result (Key × List ℕ) Error
key_of_line None = Err CouldNotReadKey
key_of_line (Some line) = commented_key (key_fields line).1 (decoded_key (key_fields line).0)

-- the key of a file's text, with its comment
unfoldable pub public_key_in : List ℕ → Result (Key × List ℕ) Error
public_key_in text = key_of_line (key_line text)

abbrev pub public_key_found : Found → Result (Key × List ℕ) Error
public_key_found found.NotOpened = Err CouldNotReadKey
public_key_found found.NotText = Err Utf8
public_key_found (found.Text text) = public_key_in text

-- the key of the file at a path
abbrev pub public_key_at_path : List ℕ → Told → Result (Key × List ℕ) Error
public_key_at_path path files = public_key_found (found_in (bytes_of files path))
