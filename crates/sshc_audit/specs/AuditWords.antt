-- The auditor's command-line arguments: `hash FILE SALTS`, `drop FILE`, `remove HOST PORT FILE`, what each writes, and
-- the status.
-- One equation on the list of arguments, and one text for a whole call; the code reads the arguments one by one and
-- asks the files.
use Rattle.std.specs.Prelude.{◌≡◌, ◌⊎◌, ℕ, ◌+◌, ◌≤◌, List, [], ◌∷◌, ◌++◌, length, codes, Option, Some, None, Result, Ok, Err}
use Rattle.sshc_wire.specs.Faults.{Rose}
use Rattle.sshc_key.specs.KeyFiles.{Told}
use Rattle.sshc_hosts.specs.HostText.{host_text}
use Rattle.sshc_hosts.specs.HostsFile.{text_at, HoldsNoText}
use Rattle.sshc_hosts_words.specs.Port.{IsPort}
use Rattle.sshc_hosts_words.specs.Adding.{Adds}
use Rattle.sshc_audit.specs.declared.asked.AuditAsked.{AuditAsked}
use Rattle.sshc_audit.specs.declared.asked.AuditAsked.TheVariants as code
use Rattle.sshc_audit.specs.declared.refusal.Refusal.{Refusal}
use Rattle.sshc_audit.specs.declared.refusal.Refusal.TheVariants as refusal
use Rattle.sshc_audit.specs.Rewriting.{rewritten}
use Rattle.sshc_audit.specs.Doubled.{drops_doubled}
use Rattle.sshc_audit.specs.Removing.{removes_host}
use Rattle.sshc_audit.specs.Hashing.{names_of, hashed_text}
use Rattle.sshc_audit.specs.SaltLines.{salts_in}

-- ---- the request

-- the paths FILE and SALTS, and a host at a port
pub data Asked : Type 0 where
  hash : List ℕ → List ℕ → Asked
  drop : List ℕ → Asked
  remove : List ℕ → ℕ → List ℕ → Asked

-- the arguments make this request
abbrev pub Asks : List (List ℕ) → Asked → Type 0
Asks words (hash file salts) = words ≡ codes "hash" ∷ file ∷ salts ∷ []
Asks words (drop file) = words ≡ codes "drop" ∷ file ∷ []
Asks words (remove host port file) = (word : List ℕ) × (words ≡ codes "remove" ∷ host ∷ word ∷ file ∷ []) × IsPort word port

-- the request that a value of the code's type represents
abbrev pub asked_by : AuditAsked → Asked
asked_by (code.Hash file salts) = hash file.now salts.now
asked_by (code.Drop file) = drop file.now
asked_by (code.Remove host port file) = remove host.now port file.now

-- ---- the text of a request

-- the text of the file at the path, if contracts see the files; a file that isn't opened is an empty text
abbrev pub IsTextAt : Option Told → List ℕ → List ℕ → Type 0
IsTextAt None path text = Unit {0}
IsTextAt (Some files) path text = text_at files path ≡ Ok text

-- the salts of the lines, one for each name of the text, in their order
abbrev pub IsHashedWith : List ℕ → List ℕ → List ℕ → Type 0
IsHashedWith text lines new =
    (used : List (List ℕ)) × (others : List (List ℕ)) × (salts_in lines ≡ used ++ others) × (length used ≡ names_of text) × (new ≡ hashed_text text used)

-- the lines have fewer salts than the text has names
abbrev pub HasFewSalts : List ℕ → List ℕ → Type 0
HasFewSalts text lines = (length (salts_in lines) + 1) ≤ names_of text

-- the text with its names hashed, or why there is none
abbrev pub HashesWith : List ℕ → List ℕ → Result (List ℕ) Refusal → Type 0
HashesWith text lines (Ok new) = IsHashedWith text lines new
HashesWith text lines (Err refusal.SaltFault) = HasFewSalts text lines
HashesWith text lines (Err refusal.KnownFile) = ⊥
HashesWith text lines (Err refusal.NoMemory) = Unit {0}

-- the text of the file at the path, or why it can't be read
abbrev pub IsReading : Option Told → List ℕ → ℕ → ℕ → Result (List ℕ) Refusal → Type 0
IsReading files path reads reads' (Ok text) = IsTextAt files path text
IsReading files path reads reads' (Err refusal.KnownFile) = Rose reads reads' ⊎ HoldsNoText files path
IsReading files path reads reads' (Err refusal.SaltFault) = ⊥
IsReading files path reads reads' (Err refusal.NoMemory) = Unit {0}

-- the new text of a request
abbrev pub IsNewText : Asked → Option Told → List ℕ → Type 0
IsNewText (hash file salts) files new = (text : List ℕ) × (lines : List ℕ) × IsTextAt files file text × IsTextAt files salts lines × IsHashedWith text lines new
IsNewText (drop file) files new = (text : List ℕ) × IsTextAt files file text × (new ≡ rewritten (drops_doubled text))
IsNewText (remove host port file) files new = (text : List ℕ) × IsTextAt files file text × (new ≡ rewritten (removes_host text (host_text host port)))

-- SALTS has fewer salts than FILE has names
abbrev pub WantsSalts : Asked → Option Told → Type 0
WantsSalts (hash file salts) files = (text : List ℕ) × (lines : List ℕ) × IsTextAt files file text × IsTextAt files salts lines × HasFewSalts text lines
WantsSalts asked files = ⊥

-- a file that is read isn't UTF-8 text
abbrev pub HasNoText : Asked → Option Told → Type 0
HasNoText (hash file salts) files = HoldsNoText files file ⊎ HoldsNoText files salts
HasNoText (drop file) files = HoldsNoText files file
HasNoText (remove host port file) files = HoldsNoText files file

-- the new text, or why there is none: each refusal has its cause
abbrev pub IsAnswer : Asked → Option Told → ℕ → ℕ → Result (List ℕ) Refusal → Type 0
IsAnswer asked files reads reads' (Ok new) = IsNewText asked files new
IsAnswer asked files reads reads' (Err refusal.KnownFile) = Rose reads reads' ⊎ HasNoText asked files
IsAnswer asked files reads reads' (Err refusal.SaltFault) = WantsSalts asked files
IsAnswer asked files reads reads' (Err refusal.NoMemory) = Unit {0}

-- ---- what is written

abbrev pub refusal_line : Refusal → List ℕ
refusal_line refusal.KnownFile = codes "error known-file\n"
refusal_line refusal.SaltFault = codes "error salt-fault\n"
refusal_line refusal.NoMemory = codes "error no-memory\n"

abbrev pub refusal_status : Refusal → ℕ
refusal_status refusal.KnownFile = 3
refusal_status refusal.SaltFault = 45
refusal_status refusal.NoMemory = 20

-- the text written for an answer, and its status
abbrev pub written_for : Result (List ℕ) Refusal → List ℕ
written_for (Ok new) = new
written_for (Err e) = refusal_line e

abbrev pub status_for : Result (List ℕ) Refusal → ℕ
status_for (Ok new) = 0
status_for (Err e) = refusal_status e

-- the contents of the files and the sink as far as contracts see them, and how often reading, adding and writing have
-- failed
pub record Outside : Type 0 where
  pub files : Option Told
  pub reads : ℕ
  pub appends : ℕ
  pub written : Option (List ℕ)
  pub writes : ℕ

abbrev pub outside : Option Told → ℕ → ℕ → Option (List ℕ) → ℕ → Outside
outside files reads appends written writes =
    record { files = files; reads = reads; appends = appends; written = written; writes = writes }

-- the state after an answer: its text or its line was written, or was cut because the sink failed or memory ran out; no
-- file changed
pub record Writes (answer : Result (List ℕ) Refusal) (before after : Outside) (status : ℕ) : Type 0 where
  pub adds : Adds (written_for answer) (status_for answer) before.written after.written before.writes after.writes status
  pub same : after.files ≡ before.files
  pub appends : after.appends ≡ before.appends

-- the request was carried out
abbrev pub Audits : Asked → Outside → Outside → ℕ → Type 0
Audits asked before after status =
    (answer : Result (List ℕ) Refusal) × IsAnswer asked before.files before.reads after.reads answer × Writes answer before after status

-- invalid arguments: `error words`, and the files are as they were
pub record RefusesWords (before after : Outside) (status : ℕ) : Type 0 where
  pub adds : Adds (codes "error words\n") 2 before.written after.written before.writes after.writes status
  pub files : after.files ≡ before.files
  pub reads : after.reads ≡ before.reads
  pub appends : after.appends ≡ before.appends
