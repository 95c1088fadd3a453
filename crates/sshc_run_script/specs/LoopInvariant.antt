-- The invariant of a run after some of its events.
use Rattle.std.specs.Prelude.{◌≡◌, ℕ, ◌-◌, ◌+◌, ◌≤◌, List, ◌∷◌, ◌++◌, length}
use Rattle.sshc_wire.specs.declared.record.Record.{Record}
use Rattle.sshc_key.specs.Signers.{SignCall}
use Rattle.sshc_key.specs.Asking.{Answer}
use Rattle.sshc_run_script.specs.Prefixes.{IsFront}
use Rattle.sshc_run_script.specs.Outcome.{Streams, Moved, IsCut}
use Rattle.sshc_run_script.specs.RecordLines.{lines}
use Rattle.sshc_run_reader.specs.Script.{events}
use Rattle.sshc_run_script.specs.ScriptRun.{Spot, Table, after, answers_of}

-- these bytes, one event per turn, and these calls of the signer bring the run from the first spot to this one, with
-- these records: whatever bytes follow, and whatever the signer answers then, the run continues from here; on each
-- shorter prefix of the bytes it comes to its end, and has no more records than these
pub record BringsTo {S : Type 0} (table : Table S) (first : Spot S) (max turns : ℕ) (at : Spot S) (given : List ℕ) (gained : List SignCall) (records : List Record) : Type 0 where
  pub on : (later : List Answer) (more : List ℕ) → table max first (answers_of gained ++ later) (given ++ more) ≡ after records gained (table (max - turns) at later more)
  pub counts : (n : ℕ) (more : List ℕ) → length (events (turns + n) first.place first.last (given ++ more)) ≡ turns + length (events n at.place at.last more)
  pub early : (later : List Answer) (front : List ℕ) (b : ℕ) (more : List ℕ) → given ≡ front ++ b ∷ more → IsFront (table max first (answers_of gained ++ later) front).records records
  pub just : (later : List Answer) (front : List ℕ) (b : ℕ) (more : List ℕ) → given ≡ front ++ b ∷ more → IsCut (table max first (answers_of gained ++ later) front).stop

-- such bytes were read, such calls made and such records written
abbrev pub IsAlong : {S : Type 0} → Table S → Spot S → ℕ → ℕ → Spot S → Streams → Streams → Type 0
IsAlong table first max turns at before now =
    (given : List ℕ) × (gained : List SignCall) × (records : List Record) × Moved before now given gained (lines records) × BringsTo table first max turns at given gained records

-- nothing was read, written or asked, and the run is where it was
abbrev pub Stays : {S : Type 0} → Spot S → Spot S → Streams → Streams → Type 0
Stays at at' before now = (at' ≡ at) × (now.left ≡ before.left) × (now.held ≡ before.held) × (now.calls ≡ before.calls)

-- the run took all of its bytes, and so many events of those that it may take remain; it continues from here. The read
-- that found the end isn't counted
abbrev pub Pauses : {S : Type 0} → Table S → Spot S → ℕ → Spot S → ℕ → Streams → Streams → Type 0
Pauses table at n at' n' before now = (n' ≤ n) × IsAlong table at n (n - n') at' before (record now { reads = before.reads })
