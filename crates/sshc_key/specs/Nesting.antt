-- The bound on certificates in one another, and the key at the front of a blob.
use Rattle.std.specs.Prelude.{◌≡◌, ℕ, ◌+◌, ◌≤◌, List, [], ◌∷◌, ◌++◌, codes, nat_eq, nat_le, Option, Some, None, Result, Ok, Err, if◌then◌else◌}
use Rattle.std.specs.List.{starts_with}
use Rattle.sshc_wire.specs.Reads.{Reader}
use Rattle.sshc_wire.specs.Format.{part_at}
use Rattle.sshc_key.specs.declared.error.Error.{Error}
use Rattle.sshc_key.specs.declared.error.Error.TheVariants.{SshKey, NoMemory}
use Rattle.sshc_key.specs.Gives.{Fails}
use Rattle.sshc_key.specs.KeyGrammar.{Key, key_text, Fits}
use Rattle.sshc_key.specs.KeyReading.{key_at}

-- what each certificate's name has
abbrev pub marker : List ℕ
marker = codes "-cert-v01@"

-- at how many places the marker occurs
abbrev pub markers : List ℕ → ℕ
markers [] = 0
markers (b ∷ bytes) = (if starts_with nat_eq (b ∷ bytes) marker then 1 else 0) + markers bytes

-- a fault of reading a key says that the bytes are outside the grammar
abbrev pub outside : Error → Error
outside NoMemory = NoMemory
outside e = SshKey

-- the blob begins with the key, and has at most eight markers
pub record IsReadable (blob : List ℕ) (key : Key) : Type 0 where
  pub nesting : markers blob ≤ 8
  pub fits : Fits key
  pub rest : List ℕ
  pub front : blob ≡ key_text key ++ rest

-- what reading found, and what followed it
abbrev pub front_of : Result (Key × List ℕ) Error → Option Key
front_of (Ok x) = Some x.0
front_of (Err e) = None

abbrev pub whole_of : Result (Key × List ℕ) Error → Option Key
whole_of (Ok (key, [])) = Some key
whole_of (Ok (key, (b ∷ bytes))) = None
whole_of (Err e) = None

-- the key at the front, where there are at most eight markers; all that is outside the grammar is SshKey
unfoldable pub front_at : Reader Error Key
front_at blob = if nat_le (markers blob) 8 then part_at (λ e. SshKey) (key_at 9) blob else Err SshKey

-- the key at the front of a blob with at most eight markers, if there is one
unfoldable pub blob_key : List ℕ → Option Key
blob_key blob = front_of (front_at blob)

-- the same, where nothing follows the key
unfoldable pub whole_blob_key : List ℕ → Option Key
whole_blob_key blob = whole_of (front_at blob)

-- no key is outside the grammar
abbrev pub key_or_fault : Option Key → Result Key Error
key_or_fault None = Err SshKey
key_or_fault (Some key) = Ok key

-- the result is this key with no comment, or this fault
abbrev pub Parses : Result (Key × List ℕ) Error → Result Key Error → Type 0
Parses (Ok k) read = (read ≡ Ok k.0) × (k.1 ≡ [])
Parses (Err e) read = Fails e read

-- the blob is the key's text, which has at most eight markers
pub record IsBlobOf (key : Key) (blob : List ℕ) : Type 0 where
  pub nesting : markers blob ≤ 8
  pub fits : Fits key
  pub text : blob ≡ key_text key
