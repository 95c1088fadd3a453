-- What one event of a script does, with what is written.
use Rattle.std.specs.Prelude.{◌≡◌, ◌⊎◌, ℕ, suc, ◌+◌, ◌≤◌, List, [], ◌∷◌, ◌++◌, length, Option, Some, None, Result, Ok, Err}
use Rattle.std.specs.Option.{option_map}
use Rattle.sshc_wire.specs.Contents.{prepend, append, WroteFront, IsAtEnd}
use Rattle.sshc_wire.specs.declared.record.Record.{Record}
use Rattle.sshc_key.specs.Signers.{SignCall}
use Rattle.sshc_key.specs.Asking.{Answer, Asking, Makes, MakesFirst}
use Rattle.sshc_auth.specs.declared.ended.Ended.{Ended}
use Rattle.sshc_auth.specs.declared.ended.Ended.TheVariants as ends
use Rattle.sshc_auth.specs.declared.step.Step.{Step}
use Rattle.sshc_auth.specs.declared.step.Step.TheVariants as steps
use Rattle.sshc_run_script.specs.declared.error.RunError.{RunError}
use Rattle.sshc_run_script.specs.declared.error.RunError.TheVariants as errors
use Rattle.sshc_run_script.specs.declared.known_hosts_handler.HandlerError.{HandlerError}
use Rattle.sshc_run_script.specs.Prefixes.{IsFront}
use Rattle.sshc_run_script.specs.Handled.{Handled}
use Rattle.sshc_run_script.specs.KnownHosts.{Hosts}
use Rattle.sshc_run_script.specs.Machine.{TurnOf, stop_next}
use Rattle.sshc_run_script.specs.Outcome.{Streams, Moved, Ending, told, cut, unread, ending_of, stop_as, IsCut, Ends}
use Rattle.sshc_run_script.specs.RecordLines.{lines}
use Rattle.sshc_run_reader.specs.Script.{events}
use Rattle.sshc_run_script.specs.ScriptRun.{Spot, Table, after, answers_of}
use Rattle.sshc_run_script.specs.Turn.{handler_error_of}

-- what the handler judges by
abbrev pub hosts_of : Handled → Hosts
hosts_of h = record { host = h.host; known = h.known }

-- the result of a step, if the run stops
abbrev pub step_answer : ℕ → Step HandlerError → Option (Result Ended RunError)
step_answer place steps.Went = None
step_answer place steps.Opened = None
step_answer place (steps.Ended e) = Some (Ok e)
step_answer place (steps.Refused e) = Some (Err (handler_error_of place e))
step_answer place steps.Closed = Some (Err errors.Inconsistent)

-- memory ran out: not all calls were made and there are no records, or all were made and there are some of the turn's
-- records
abbrev pub RanOut : {S : Type 0} → Asking (TurnOf S) → List SignCall → List Record → Type 0
RanOut {S = S} asking gained records =
    (MakesFirst asking gained × (records ≡ [])) ⊎ ((t : TurnOf S) × Makes asking gained t × IsFront records t.records)

-- a step was the turn, by the calls that the signer's list gained, and its state is the turn's if the run continues; or
-- memory ran out
abbrev pub Came : {S : Type 0} → Asking (TurnOf S) → List SignCall → ℕ → Step HandlerError → S → List Record → Type 0
Came {S = S} asking gained place step s records =
    ((step_answer place step ≡ Some (Err errors.NoMemory)) × RanOut asking gained records)
    ⊎ ((t : TurnOf S) × Makes asking gained t × (records ≡ t.records) × (stop_next t.next ≡ option_map stop_as (step_answer place step)) × (stop_next t.next ≡ None → s ≡ t.state))

-- a step of the opening is the turn, by the calls that the signer's list gained, or memory ran out and there are no
-- records
abbrev pub Took : {S : Type 0} → Asking (TurnOf S) → List SignCall → ℕ → Step HandlerError → S → List Record → Type 0
Took {S = S} asking gained place step s records =
    ((records ≡ []) × (step_answer place step ≡ Some (Err errors.NoMemory)) × MakesFirst asking gained)
    ⊎ ((t : TurnOf S) × Makes asking gained t × (records ≡ t.records) × (s ≡ t.state) × (stop_next t.next ≡ option_map stop_as (step_answer place step)))

-- the run stops as the table does, and all records of the event are written
abbrev pub StopsBy : {S : Type 0} → Asking (TurnOf S) → List SignCall → Option (List ℕ) → Option (List ℕ) → Result Ended RunError → Type 0
StopsBy {S = S} asking gained held now answer = (t : TurnOf S) × Makes asking gained t × (stop_next t.next ≡ Some (stop_as answer)) × (now ≡ append held (lines t.records))

-- a prefix of the event's records is written; if not all calls were made, nothing is
abbrev pub CutBy : {S : Type 0} → Asking (TurnOf S) → List SignCall → Option (List ℕ) → Option (List ℕ) → Type 0
CutBy {S = S} asking gained held now = (MakesFirst asking gained × (now ≡ held)) ⊎ ((t : TurnOf S) × Makes asking gained t × WroteFront held now (lines t.records))

abbrev pub TakeAs : {S : Type 0} → Ending → Asking (TurnOf S) → List SignCall → Option (List ℕ) → Option (List ℕ) → Result Ended RunError → Type 0
TakeAs told asking gained held now answer = StopsBy asking gained held now answer
TakeAs cut asking gained held now answer = CutBy asking gained held now
TakeAs unread asking gained held now answer = StopsBy asking gained held now answer

-- what taking an event does, by its turn and the calls that the signer's list gained
abbrev pub TakeGives : {S : Type 0} → Asking (TurnOf S) → List SignCall → S → Option (List ℕ) → Option (List ℕ) → Option (Result Ended RunError) → Type 0
TakeGives {S = S} asking gained s held now None = (t : TurnOf S) × Makes asking gained t × (stop_next t.next ≡ None) × (now ≡ append held (lines t.records)) × (s ≡ t.state)
TakeGives asking gained s held now (Some answer) = TakeAs (ending_of answer) asking gained held now answer

-- these bytes are one event and, with these calls, bring the run on: whatever follows them, and whatever the signer
-- answers then, the run has these records and continues from the new spot; on each shorter prefix of them it has no
-- records and comes to its end
pub record BringsOn {S : Type 0} (table : Table S) (at at' : Spot S) (given : List ℕ) (gained : List SignCall) (records : List Record) : Type 0 where
  pub within : at'.place ≤ at.place + 262148
  pub on : (n : ℕ) (later : List Answer) (more : List ℕ) → table (suc n) at (answers_of gained ++ later) (given ++ more) ≡ after records gained (table n at' later more)
  pub counts : (n : ℕ) (more : List ℕ) → length (events (suc n) at.place at.last (given ++ more)) ≡ suc (length (events n at'.place at'.last more))
  pub quiet : (n : ℕ) (answers : List Answer) (front : List ℕ) (b : ℕ) (more : List ℕ) → given ≡ front ++ b ∷ more → (table (suc n) at answers front).records ≡ []
  pub just : (n : ℕ) (answers : List Answer) (front : List ℕ) (b : ℕ) (more : List ℕ) → given ≡ front ++ b ∷ more → IsCut (table (suc n) at answers front).stop

-- one turn, by its result: the run continues, or ends as its table does
abbrev pub TurnGives : {S : Type 0} → Table S → Spot S → Spot S → Streams → Streams → Option (Result Ended RunError) → Type 0
TurnGives table at at' before now None =
    (given : List ℕ) × (gained : List SignCall) × (records : List Record) × Moved before now given gained (lines records) × BringsOn table at at' given gained records
TurnGives table at at' before now (Some answer) = (n : ℕ) → Ends (suc n) at.place at.last (table (suc n) at) before now answer

-- at the limit the next byte decides whether the script continues
abbrev pub LimitGives : Option (List ℕ) → Option (List ℕ) → Result Ended RunError → Type 0
LimitGives old new (Ok ends.ScriptEnd) = (old ≡ new) × IsAtEnd new
LimitGives old new (Ok e) = ⊥
LimitGives old new (Err errors.ScriptTooLong) = (b : ℕ) × (old ≡ prepend (b ∷ []) new)
LimitGives old new (Err errors.ReadFault) = old ≡ new
LimitGives old new (Err errors.NoMemory) = old ≡ new
LimitGives old new (Err e) = ⊥
