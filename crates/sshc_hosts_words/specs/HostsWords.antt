-- What the program does for the `hosts` arguments: which result it writes, and what the files hold afterwards.
-- The results are those of the named definitions over the files as far as contracts see them; the code reads a file,
-- judges it and writes line by line.
use Rattle.std.specs.Prelude.{◌≡◌, ◌⊎◌, ℕ, ◌≤◌, Bool, List, [], Option, Some, None, Result, Ok, Err, IfErr, IsErr, IsErrOf}
use Rattle.sshc_key.specs.KeyGrammar.{Key}
use Rattle.sshc_key.specs.KeyText.{decoded_key}
use Rattle.sshc_key.specs.KeyFiles.{Told, AnswersBy, HasReadCause}
use Rattle.sshc_key.specs.declared.error.Error.{Error}
use Rattle.sshc_key.specs.declared.error.Error.TheVariants.{Utf8}
use Rattle.sshc_hosts.specs.HostText.{host_text}
use Rattle.sshc_hosts.specs.Judgement.{KnownKey}
use Rattle.sshc_hosts.specs.HostsFile.{known_keys_at, judged_at, LearnedIn, HoldsNoText, IsFileRefusal, IsLearningRefusal, HasWriteCause}
use Rattle.sshc_hosts_words.specs.Adding.{Adds}
use Rattle.sshc_hosts_words.specs.Asked.{Place, Asked, check, keys, learn}
use Rattle.sshc_hosts_words.specs.Told.{Telling, told_key_fault, told_no_memory, told_verdict, told_keys, told_learning}

-- ---- the outside

-- the contents of the files and the sink as far as contracts see them, and how often reading, adding and writing have
-- failed
pub record Outside : Type 0 where
  pub files : Option Told
  pub read_faults : ℕ
  pub append_faults : ℕ
  pub written : Option (List ℕ)
  pub write_faults : ℕ

abbrev pub outside : Option Told → ℕ → ℕ → Option (List ℕ) → ℕ → Outside
outside files reads appends written writes =
    record { files = files; read_faults = reads; append_faults = appends; written = written; write_faults = writes }

-- the files are as they were, and neither reading nor adding failed
pub record IsUntouched (before after : Outside) : Type 0 where
  pub files : after.files ≡ before.files
  pub reads : after.read_faults ≡ before.read_faults
  pub appends : after.append_faults ≡ before.append_faults

-- the lines were written and the status is theirs, or they were cut
pub record Tells (telling : Telling) (before after : Outside) (status : ℕ) : Type 0 where
  pub adds : Adds telling.lines telling.status before.written after.written before.write_faults after.write_faults status
  pub later : before.write_faults ≤ after.write_faults

-- ---- results

-- the place's host text
abbrev pub named : Place → List ℕ
named at = host_text at.host at.port

-- the files are as they were; why the call fails, and that a failed read was counted
pub record OnlyReads {T : Type 0} (before after : Outside) (answer : Result T Error) : Type 0 where
  pub same : after.files ≡ before.files
  pub appends : after.append_faults ≡ before.append_faults
  pub refusal : IfErr answer IsFileRefusal
  pub cause : HasReadCause before.read_faults after.read_faults answer

-- the result is the judgement of the key by the file at the path
abbrev pub Judges : Place → Key → Outside → Outside → Result Bool Error → Type 0
Judges at key before after answer = AnswersBy (λ b. b) answer before.files (judged_at at.path (named at) key) × OnlyReads before after answer

-- the result is the keys that the file at the path records
abbrev pub Lists : Place → Outside → Outside → Result (List KnownKey) Error → Type 0
Lists at before after answer = AnswersBy (λ k. k) answer before.files (known_keys_at at.path (named at)) × OnlyReads before after answer

-- if the key was learned, its line was added to the file at the path; otherwise the files are as they were
abbrev pub LeavesBy : Result (Unit {0}) Error → Place → Key × List ℕ → Outside → Outside → Type 0
LeavesBy (Ok u) at key before after = LearnedIn before.files after.files at.path (named at) key
LeavesBy (Err e) at key before after = after.files ≡ before.files

-- learning in the file at the path: the files afterwards, why it fails, and that a failed read or a failed write was
-- counted
pub record LearnsAt (at : Place) (key : Key × List ℕ) (before after : Outside) (answer : Result (Unit {0}) Error) : Type 0 where
  pub leaves : LeavesBy answer at key before after
  pub text : IsErrOf answer Utf8 → HoldsNoText before.files at.path
  pub refusal : IfErr answer IsLearningRefusal
  pub reading : HasReadCause before.read_faults after.read_faults answer
  pub writing : HasWriteCause before.append_faults after.append_faults answer

-- ---- the argument KEY

-- the key whose base64 the argument is, with no comment
abbrev pub IsKeyOf : List ℕ → Key × List ℕ → Type 0
IsKeyOf word key = (decoded_key word ≡ Ok key.0) × (key.1 ≡ [])

-- the key in the argument; None if it can't be read
abbrev pub IsKeyFound : List ℕ → Option (Key × List ℕ) → Type 0
IsKeyFound word None = IsErr (decoded_key word)
IsKeyFound word (Some key) = IsKeyOf word key

-- the argument can't be read, or there was no memory to read it; no file was read or added to
abbrev pub NoKeyGives : List ℕ → Outside → Outside → ℕ → Type 0
NoKeyGives word before after status =
    IsUntouched before after × ((IsErr (decoded_key word) × Tells told_key_fault before after status) ⊎ Tells told_no_memory before after status)

-- ---- the effect of each form of the arguments

-- the verdict on a key was written
abbrev pub VerdictGives : Place → Key → Outside → Outside → ℕ → Type 0
VerdictGives at key before after status = (answer : Result Bool Error) × Judges at key before after answer × Tells (told_verdict answer) before after status

-- a key was learned, and the result was written
abbrev pub LearningGives : Place → Key × List ℕ → Outside → Outside → ℕ → Type 0
LearningGives at key before after status =
    (answer : Result (Unit {0}) Error) × LearnsAt at key before after answer × Tells (told_learning answer) before after status

abbrev pub CheckGives : Place → List ℕ → Outside → Outside → ℕ → Type 0
CheckGives at word before after status =
    ((key : Key × List ℕ) × IsKeyOf word key × VerdictGives at key.0 before after status) ⊎ NoKeyGives word before after status

abbrev pub KeysGives : Place → Outside → Outside → ℕ → Type 0
KeysGives at before after status =
    (answer : Result (List KnownKey) Error) × Lists at before after answer × Tells (told_keys answer) before after status

abbrev pub LearnGives : Place → List ℕ → Outside → Outside → ℕ → Type 0
LearnGives at word before after status =
    ((key : Key × List ℕ) × IsKeyOf word key × LearningGives at key before after status) ⊎ NoKeyGives word before after status

-- the request was carried out, and its result written
abbrev pub AskedGives : Asked → Outside → Outside → ℕ → Type 0
AskedGives (check at word) before after status = CheckGives at word before after status
AskedGives (keys at) before after status = KeysGives at before after status
AskedGives (learn at word) before after status = LearnGives at word before after status

-- the call returns a status, and carried out the request
abbrev pub HostsGives : Asked → Outside → Outside → Option ℕ → Type 0
HostsGives asked before after None = ⊥
HostsGives asked before after (Some status) = AskedGives asked before after status
