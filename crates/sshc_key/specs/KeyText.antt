-- A key as base64 in lines (RFC 4648, section 4; OpenSSH's key files).
use Rattle.std.specs.Prelude.{◌≡◌, ℕ, Bool, List, filter, not, ◌&&◌, ◌==◌, Result, Ok, Err}
use Rattle.base64.specs.Engines.{standard}
use Rattle.base64.specs.GeneralPurpose.{decode_of}
use Rattle.sshc_key.specs.declared.error.Error.{Error}
use Rattle.sshc_key.specs.declared.error.Error.TheVariants.{Decode}
use Rattle.sshc_key.specs.KeyGrammar.{Key}
use Rattle.sshc_key.specs.Nesting.{IsReadable, blob_key, key_or_fault}

-- neither a carriage return nor a line feed
abbrev pub is_no_line_end : ℕ → Bool
is_no_line_end b = not (b == 13) && not (b == 10)

abbrev pub decoded : {E : Type 0} → Result (List ℕ) E → Result Key Error
decoded (Ok blob) = key_or_fault (blob_key blob)
decoded (Err e) = Err Decode

-- the key at the front of the blob of which the text, without its line ends, is the padded base64
unfoldable pub decoded_key : List ℕ → Result Key Error
decoded_key text = decoded (decode_of standard (filter is_no_line_end text))

-- the text, without its line ends, is the padded base64 of a blob that begins with the key
pub record IsKeyText (text : List ℕ) (key : Key) : Type 0 where
  pub blob : List ℕ
  pub base64 : decode_of standard (filter is_no_line_end text) ≡ Ok blob
  pub readable : IsReadable blob key
