-- Known hosts texts in files: the result of a call, by the files' contents as far as contracts see them, and which
-- faults it may return.
-- The definitions look the path up in a list of files; the code asks the files for it.
use Rattle.std.specs.Prelude.{◌≡◌, ◌≢◌, ℕ, Bool, ◌≤◌, List, [], ◌++◌, codes, Option, Some, None, Result, Ok, Err, IsErrOf, if◌then◌else◌}
use Rattle.std.specs.Str.{is_utf8}
use Rattle.sshc_wire.specs.Contents.{bytes_of, with_text}
use Rattle.sshc_wire.specs.Faults.{Rose}
use Rattle.sshc_wire.specs.Reads.{◌>>=◌}
use Rattle.sshc_key.specs.KeyFiles.{Told}
use Rattle.sshc_key.specs.KeyGrammar.{Key}
use Rattle.sshc_key.specs.declared.error.Error.{Error}
use Rattle.sshc_key.specs.declared.error.Error.TheVariants.{NoHomeDir, Utf8, ReadFault, WriteFault, NoMemory}
use Rattle.sshc_hosts.specs.Learning.{learned, once_learned}
use Rattle.sshc_hosts.specs.Judgement.{KnownKey, known_keys, judged, IsRefusal}

-- the known hosts file of a home directory
abbrev pub home_path : List ℕ → List ℕ
home_path home = home ++ codes "/.ssh/known_hosts"

-- a file that isn't there counts as an empty text
abbrev pub text_found : Option (List ℕ) → Result (List ℕ) Error
text_found None = Ok []
text_found (Some bytes) = if is_utf8 bytes then Ok bytes else Err Utf8

-- the known hosts text at a path
abbrev pub text_at : Told → List ℕ → Result (List ℕ) Error
text_at files path = text_found (bytes_of files path)

-- the keys that the file at a path records, and its judgement
abbrev pub known_keys_at : List ℕ → List ℕ → Told → Result (List KnownKey) Error
known_keys_at path host files = text_at files path >>= (λ text. known_keys text host)

abbrev pub judged_at : List ℕ → List ℕ → Key → Told → Result Bool Error
judged_at path host key files = text_at files path >>= (λ text. judged text host key)

-- the errors of reading a file, and those of a call on a file's text
abbrev pub IsReadingRefusal : Error → Type 0
IsReadingRefusal Utf8 = Unit {0}
IsReadingRefusal ReadFault = Unit {0}
IsReadingRefusal NoMemory = Unit {0}
IsReadingRefusal e = ⊥

abbrev pub IsFileRefusal : Error → Type 0
IsFileRefusal Utf8 = Unit {0}
IsFileRefusal ReadFault = Unit {0}
IsFileRefusal e = IsRefusal e

-- the errors of a call on a home directory
abbrev pub IsHomeRefusal : Error → Type 0
IsHomeRefusal NoHomeDir = Unit {0}
IsHomeRefusal e = IsFileRefusal e

-- a function of the path in a home directory, if there is one
abbrev pub at_home : {Y : Type 0} → Option (List ℕ) → (List ℕ → Told → Result Y Error) → Told → Result Y Error
at_home None outcome files = Err NoHomeDir
at_home (Some home) outcome files = outcome (home_path home) files

-- NoHomeDir exactly if there is no home directory
abbrev pub NeedsHome : {T : Type 0} → Option (List ℕ) → Result T Error → Type 0
NeedsHome None result = result ≡ Err NoHomeDir
NeedsHome (Some home) result = result ≢ Err NoHomeDir

-- ---- learning

-- the line was added at the end of the file at the path, or in a new file
abbrev pub LearnedIn : Option Told → Option Told → List ℕ → List ℕ → Key × List ℕ → Type 0
LearnedIn None new path host key = Unit {0}
LearnedIn (Some old) new path host key = (text : List ℕ) × (text_at old path ≡ Ok text) × (new ≡ Some (with_text old path (learned text host key)))

-- the judgement by the file at the path, before a key is learned for a host and after it
pub record LearnsAt (old new : Told) (path host : List ℕ) (key : Key) : Type 0 where
  pub accepted : judged_at path host key new ≡ once_learned (judged_at path host key old)
  pub others : (other : List ℕ) (k : Key) → other ≢ host → judged_at path other k new ≡ judged_at path other k old

abbrev pub LearnsIn : Option Told → Option Told → List ℕ → List ℕ → Key → Type 0
LearnsIn None new path host key = Unit {0}
LearnsIn (Some old) None path host key = ⊥
LearnsIn (Some old) (Some new) path host key = LearnsAt old new path host key

-- the file at the path isn't UTF-8 text
abbrev pub HoldsNoText : Option Told → List ℕ → Type 0
HoldsNoText None path = Unit {0}
HoldsNoText (Some files) path = text_at files path ≡ Err Utf8

-- a count never falls; a failed write is returned only if the count rose, and with any other result the count stays the
-- same
pub record HasWriteCause {T : Type 0} (before now : ℕ) (result : Result T Error) : Type 0 where
  pub later : before ≤ now
  pub fault : IsErrOf result WriteFault → Rose before now
  pub same : (IsErrOf result WriteFault → ⊥) → now ≡ before

-- the errors of adding to a file, and those of learning
abbrev pub IsAddingRefusal : Error → Type 0
IsAddingRefusal WriteFault = Unit {0}
IsAddingRefusal NoMemory = Unit {0}
IsAddingRefusal e = ⊥

abbrev pub IsLearningRefusal : Error → Type 0
IsLearningRefusal WriteFault = Unit {0}
IsLearningRefusal e = IsReadingRefusal e

-- learning in the file of a home directory, if there is one
abbrev pub LearnedAtHome : Option Told → Option Told → Option (List ℕ) → List ℕ → Key × List ℕ → Type 0
LearnedAtHome old new None host key = ⊥
LearnedAtHome old new (Some home) host key = LearnedIn old new (home_path home) host key

abbrev pub LearnsAtHome : Option Told → Option Told → Option (List ℕ) → List ℕ → Key → Type 0
LearnsAtHome old new None host key = ⊥
LearnsAtHome old new (Some home) host key = LearnsIn old new (home_path home) host key

-- the home directory's file isn't UTF-8 text
abbrev pub HomeHoldsNoText : Option Told → Option (List ℕ) → Type 0
HomeHoldsNoText files None = ⊥
HomeHoldsNoText files (Some home) = HoldsNoText files (home_path home)

-- the errors of learning in a home directory
abbrev pub IsHomeLearningRefusal : Error → Type 0
IsHomeLearningRefusal NoHomeDir = Unit {0}
IsHomeLearningRefusal e = IsLearningRefusal e
