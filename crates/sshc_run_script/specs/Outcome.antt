-- What a run has read, written, asked the signer, and returned.
use Rattle.std.specs.Prelude.{◌≡◌, ◌⊎◌, ℕ, suc, ◌+◌, ◌≤◌, List, ◌∷◌, ◌++◌, length, Option, Some, Result, Ok, Err}
use Rattle.sshc_wire.specs.Contents.{prepend, append, WroteFront, IsAtEnd}
use Rattle.sshc_key.specs.Signers.{SignCall}
use Rattle.sshc_key.specs.Asking.{Answer}
use Rattle.sshc_auth.specs.declared.ended.Ended.{Ended}
use Rattle.sshc_auth.specs.declared.ended.Ended.TheVariants.{ScriptEnd}
use Rattle.sshc_run_script.specs.declared.error.RunError.{RunError}
use Rattle.sshc_run_script.specs.declared.error.RunError.TheVariants as errors
use Rattle.sshc_run_script.specs.Machine.{RunStop, ended, refused}
use Rattle.sshc_run_reader.specs.Reading.{ReadFor}
use Rattle.sshc_run_script.specs.RecordLines.{lines}
use Rattle.sshc_run_reader.specs.Script.{events}
use Rattle.sshc_run_script.specs.ScriptRun.{Run, answers_of}

-- ---- the outside

-- how contracts see the outside: the bytes that the source still has, the bytes that the sink holds, the reads that
-- were made, and the signer's calls
pub record Streams : Type 0 where
  pub left : Option (List ℕ)
  pub held : Option (List ℕ)
  pub reads : ℕ
  pub calls : List SignCall

abbrev pub streams : Option (List ℕ) → Option (List ℕ) → ℕ → List SignCall → Streams
streams left held reads calls = record { left = left; held = held; reads = reads; calls = calls }

-- these bytes were read, these calls of the signer were made, and this text was written
pub record Moved (before now : Streams) (given : List ℕ) (gained : List SignCall) (text : List ℕ) : Type 0 where
  pub read : before.left ≡ prepend given now.left
  pub asked : now.calls ≡ before.calls ++ gained
  pub wrote : now.held ≡ append before.held text
  pub count : now.reads ≤ before.reads + length given

-- ---- how a run ends

-- where a result comes from: the table, a cut write, or a failed read
pub data Ending : Type 0 where
  told : Ending
  cut : Ending
  unread : Ending

abbrev pub ending_of : Result Ended RunError → Ending
ending_of (Ok e) = told
ending_of (Err errors.NoMemory) = cut
ending_of (Err errors.WriteFault) = cut
ending_of (Err errors.ReadFault) = unread
ending_of (Err e) = told

-- the result, as a stop of the table
abbrev pub stop_as : Result Ended RunError → RunStop
stop_as (Ok e) = ended e
stop_as (Err e) = refused e

-- the run comes to the end of its bytes: they end between two events, or inside one
abbrev pub IsCut : RunStop → Type 0
IsCut stop = (stop ≡ ended ScriptEnd) ⊎ ((place : ℕ) × (stop ≡ refused (errors.BadEvent place)))

-- the result is the table's over the bytes that were read and the signer's answers, and no remaining byte and no
-- further answer would change it; all records are written. No byte was read beyond the event that ended the run: on
-- each shorter prefix of the bytes the run comes to their end. At the script's end no byte remains.
pub record IsExact (table : List Answer → List ℕ → Run) (given : List ℕ) (gained : List SignCall) (before now : Streams) (answer : Result Ended RunError) : Type 0 where
  pub all : now.held ≡ append before.held (lines (table (answers_of gained) given).records)
  pub stop : (table (answers_of gained) given).stop ≡ stop_as answer
  pub rest : (later : List Answer) (more : List ℕ) → now.left ≡ Some more → table (answers_of gained ++ later) (given ++ more) ≡ table (answers_of gained) given
  pub just : (later : List Answer) (front : List ℕ) (b : ℕ) (more : List ℕ) → given ≡ front ++ b ∷ more → IsCut (table (answers_of gained ++ later) front).stop
  pub whole : answer ≡ Ok ScriptEnd → IsAtEnd now.left

-- after a cut write a prefix of the lines is written, after a failed read all lines of the whole events that were read
abbrev pub EndsAs : Ending → (List Answer → List ℕ → Run) → List ℕ → List SignCall → Streams → Streams → Result Ended RunError → Type 0
EndsAs told table given gained before now answer = IsExact table given gained before now answer
EndsAs cut table given gained before now answer = WroteFront before.held now.held (lines (table (answers_of gained) given).records)
EndsAs unread table given gained before now answer = now.held ≡ append before.held (lines (table (answers_of gained) given).records)

-- this text was written, and maybe more after it
abbrev pub HasWritten : Option (List ℕ) → Option (List ℕ) → List ℕ → Type 0
HasWritten held now text = (more : List ℕ) × (now ≡ append held (text ++ more))

-- however the run ends, for each shorter prefix of the bytes that were read all its records are written: those of every
-- event before the last
abbrev pub HasEarlier : (List Answer → List ℕ → Run) → List ℕ → List SignCall → Option (List ℕ) → Option (List ℕ) → Type 0
HasEarlier table given gained held now =
    (later : List Answer) (front : List ℕ) (b : ℕ) (more : List ℕ) → given ≡ front ++ b ∷ more → HasWritten held now (lines (table (answers_of gained ++ later) front).records)

-- the bytes hold at most n whole events, from a place and a moment
abbrev pub HoldsAtMost : ℕ → ℕ → ℕ → List ℕ → Type 0
HoldsAtMost n place last bytes = length (events (suc n) place last bytes) ≤ n

-- these bytes were read, at most so many events, and the signer was called as the table calls it; and the run's result
-- by them
pub record EndsBy (n place last : ℕ) (table : List Answer → List ℕ → Run) (before now : Streams) (answer : Result Ended RunError) (given : List ℕ) (gained : List SignCall) : Type 0 where
  pub read : before.left ≡ prepend given now.left
  pub asked : now.calls ≡ before.calls ++ gained
  pub made : (table (answers_of gained) given).calls ≡ gained
  pub by : EndsAs (ending_of answer) table given gained before now answer
  pub early : HasEarlier table given gained before.held now.held
  pub count : ReadFor before.reads now.reads given
  pub few : HoldsAtMost n place last given

-- the bytes that were read, the calls of the signer, and the run's result by them
abbrev pub Ends : ℕ → ℕ → ℕ → (List Answer → List ℕ → Run) → Streams → Streams → Result Ended RunError → Type 0
Ends n place last table before now answer = (given : List ℕ) × (gained : List SignCall) × EndsBy n place last table before now answer given gained
