-- A part of a larger machine: which events, records and calls of the signer are its own, and what its share of a run
-- is. The session is such a part of a machine that serves agents besides. A machine is a part of itself.
use Rattle.std.specs.Prelude.{◌≡◌, ◌⊎◌, Bool, false, List, [], ◌∷◌, ◌++◌, filter}
use Rattle.sshc_wire.specs.declared.record.Record.{Record}
use Rattle.sshc_key.specs.Signers.{SignCall}
use Rattle.sshc_key.specs.declared.signer.Asker.{Asker}
use Rattle.sshc_key.specs.Asking.{Answer, Asking, done, asks}
use Rattle.sshc_run_reader.specs.Script.{Frame}
use Rattle.sshc_run_script.specs.Prefixes.{IsFront}
use Rattle.sshc_run_script.specs.Machine.{RunStop, unanswered_stop}
use Rattle.sshc_run_script.specs.ScriptRun.{Run, answers_of}

-- ---- what is a part's own

-- which events, records and askers are the part's
pub record Own : Type 0 where
  pub event : Frame → Bool
  pub output : Record → Bool
  pub asker : Asker → Bool

abbrev pub own_events : Own → List Frame → List Frame
own_events own frames = filter own.event frames

abbrev pub own_records : Own → List Record → List Record
own_records own records = filter own.output records

abbrev pub own_calls : Own → List SignCall → List SignCall
own_calls own calls = filter (λ (call : SignCall). own.asker call.by) calls

-- the answers of its own calls, in order
abbrev pub own_answers : Own → List SignCall → List Answer
own_answers own calls = answers_of (own_calls own calls)

-- ---- turns for its own events and for others

-- the test has this result for each record
abbrev pub SaysBy : (Record → Bool) → Bool → List Record → Type 0
SaysBy test is [] = Unit {0}
SaysBy test is (output ∷ records) = (test output ≡ is) × SaysBy test is records

-- the test has this result for each asker
abbrev pub AsksBy : {A : Type 0} → (Asker → Bool) → Bool → Asking A → Type 0
AsksBy test is (done x) = Unit {0}
AsksBy test is (asks asked on) = (test asked.by ≡ is) × ((answer : Answer) → AsksBy test is (on answer))

-- one of these events is another's, and the run stopped for its cause
abbrev pub StoppedByOther : Own → (Frame → RunStop → Type 0) → List Frame → RunStop → Type 0
StoppedByOther own Cause [] stop = ⊥
StoppedByOther own Cause (frame ∷ frames) stop = ((own.event frame ≡ false) × Cause frame stop) ⊎ StoppedByOther own Cause frames stop

-- ---- a run, as its part sees it

-- the records and calls of a run that are the part's own are the first of the part's run, whatever answers follow
abbrev pub IsFirstPart : Own → Run → (List Answer → Run) → Type 0
IsFirstPart own r part =
    (later : List Answer) → IsFront (own_records own r.records) (part (own_answers own r.calls ++ later)).records × IsFront (own_calls own r.calls) (part (own_answers own r.calls ++ later)).calls

-- they are all of them, and the run stops as the part's run does
abbrev pub IsWholePart : Own → Run → (List Answer → Run) → Type 0
IsWholePart own r part = part (own_answers own r.calls) ≡ record { records = own_records own r.records; calls = own_calls own r.calls; stop = r.stop }

-- a run stopped at a call without an answer, or at an event of another
abbrev pub StopsElse : Own → (Frame → RunStop → Type 0) → List Frame → RunStop → Type 0
StopsElse own Cause frames stop = (stop ≡ unanswered_stop) ⊎ StoppedByOther own Cause frames stop

-- its records and calls are the first of the part's run; they are all of them, unless the run stopped in this way
pub record PartOf (own : Own) (Else : RunStop → Type 0) (r : Run) (part : List Answer → Run) : Type 0 where
  pub first : IsFirstPart own r part
  pub whole : IsWholePart own r part ⊎ Else r.stop
