-- Which keys are read again from the line that is written for them in a key file.
use Rattle.std.specs.Prelude.{◌≡◌, ℕ, ◌≤◌, true, false, List, Some, Ok, ◌==◌, All}
use Rattle.std.specs.Str.{trim_start, trim_end}
use Rattle.sshc_wire.specs.Contents.{bytes_of}
use Rattle.sshc_key.specs.Algorithms.{key_base64}
use Rattle.sshc_key.specs.KeyFiles.{Told, is_key_line, public_key_at_path}
use Rattle.sshc_key.specs.KeyGrammar.{Key, key_name, key_text, Fits}
use Rattle.sshc_key.specs.KeyText.{decoded_key}
use Rattle.sshc_key.specs.Nesting.{markers}

-- a key in the grammar with at most eight markers, whose name isn't begun by `#`, and a comment of one line without white
-- space at its two ends
pub record IsLineKey (key : Key × List ℕ) : Type 0 where
  pub fits : Fits key.0
  pub nesting : markers (key_text key.0) ≤ 8
  pub no_comment_line : is_key_line (key_name key.0) ≡ true
  pub one_line : All (λ b. (b == 10) ≡ false) key.1
  pub starts : trim_start key.1 ≡ key.1
  pub ends : trim_end key.1 ≡ key.1

-- a key in the grammar with at most eight markers is read from its base64
abbrev pub IsReadAgain : Key → Type 0
IsReadAgain key = Fits key → markers (key_text key) ≤ 8 → decoded_key (key_base64 key) ≡ Ok key

-- the key of each file of these bytes
abbrev pub IsLoadedFrom : Key × List ℕ → List ℕ → Type 0
IsLoadedFrom key bytes = (path : List ℕ) (files : Told) → bytes_of files path ≡ Some bytes → public_key_at_path path files ≡ Ok key
