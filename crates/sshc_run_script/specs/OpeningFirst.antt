-- The relation between the opening table and a run of a larger machine that begins as the opening, and that takes
-- events of others in between: the records of the session's own are a prefix of the opening's or, once it opens the
-- session, all of them followed by more.
use Rattle.std.specs.Prelude.{◌≡◌, ◌⊎◌, ℕ, List, [], Some, Result, Ok, Err}
use Rattle.sshc_wire.specs.Contents.{WroteFront, append}
use Rattle.sshc_wire.specs.Faults.{Rose}
use Rattle.sshc_wire.specs.declared.record.Record.{Record}
use Rattle.sshc_key.specs.Signers.{SignCall, since}
use Rattle.sshc_auth.specs.declared.ended.Ended.{Ended}
use Rattle.sshc_auth.specs.declared.ended.Ended.TheVariants.{ScriptEnd}
use Rattle.sshc_run_script.specs.declared.error.RunError.{RunError}
use Rattle.sshc_run_script.specs.declared.error.RunError.TheVariants as errors
use Rattle.sshc_run_script.specs.Prefixes.{IsFront}
use Rattle.sshc_run_script.specs.Machine.{RunStop, ended, Machine}
use Rattle.sshc_run_script.specs.Outcome.{Streams}
use Rattle.sshc_run_script.specs.RunFaults.{FaultCounts}
use Rattle.sshc_run_script.specs.OpeningRun.{OpeningRun, OpeningStop, opens_before, stops_with, through, opening}
use Rattle.sshc_run_script.specs.Part.{Own, own_events, own_records, own_calls, own_answers, StoppedByOther}
use Rattle.sshc_run_script.specs.RecordLines.{lines}
use Rattle.sshc_run_reader.specs.Script.{Frame, ScriptStop, whole, taken, stop_of}

-- the opening run over a script's session events, with the answers of the session's own calls
abbrev pub opening_of : {S : Type 0} → Machine S → Own → ℕ → List SignCall → List ℕ → OpeningRun S
opening_of m own max calls script = opening m.turn m.first (own_events own (taken max script)) (own_answers own calls)

-- the same for the calls of the signer that were made meanwhile
abbrev pub opening_since : {S : Type 0} → Machine S → Own → ℕ → Streams → Streams → List ℕ → OpeningRun S
opening_since m own max before now script = opening_of m own max (since before.calls now.calls) script

-- these are a prefix of the opening's records or, once it opens the session, all of them followed by more
abbrev pub BeginsAs : {S : Type 0} {X : Type 0} → List X → OpeningStop S → List X → Type 0
BeginsAs outputs (opens_before s frames left) output = IsFront output outputs ⊎ IsFront outputs output
BeginsAs outputs (stops_with stop) output = IsFront output outputs
BeginsAs outputs through output = IsFront output outputs

-- these are all of the opening's records and it ends in this way, or it opens the session and these follow them
abbrev pub ConcludesAs : {S : Type 0} → List Record → OpeningStop S → List Record → Ended → Type 0
ConcludesAs outputs (opens_before s frames left) output e = IsFront outputs output
ConcludesAs outputs (stops_with stop) output e = (output ≡ outputs) × (stop ≡ ended e)
ConcludesAs outputs through output e = (output ≡ outputs) × (e ≡ ScriptEnd)

-- ---- the guarantees of a whole run

-- the bytes that are written are a prefix of the lines of some records; the session's records among these begin as the
-- opening's, and so do the session's calls of the signer, however the run ends
abbrev pub IsOpeningFirst : {S : Type 0} → Machine S → Own → ℕ → Streams → Streams → Type 0
IsOpeningFirst m own max before now =
    (bytes : List ℕ) → before.left ≡ Some bytes →
    (records : List Record) × WroteFront before.held now.held (lines records)
    × BeginsAs (opening_since m own max before now bytes).records (opening_since m own max before now bytes).stop (own_records own records)
    × BeginsAs (opening_since m own max before now bytes).calls (opening_since m own max before now bytes).stop (own_calls own (since before.calls now.calls))

-- with Ok all lines of some records are written; the session's records among these are the opening's, and it ends in
-- this way, or they follow its opening
abbrev pub IsOpeningDone : {S : Type 0} → Machine S → Own → ℕ → Streams → Streams → Result Ended RunError → Type 0
IsOpeningDone m own max before now (Ok e) =
    (bytes : List ℕ) → before.left ≡ Some bytes →
    (records : List Record) × (now.held ≡ append before.held (lines records))
    × ConcludesAs (opening_since m own max before now bytes).records (opening_since m own max before now bytes).stop (own_records own records) e
IsOpeningDone m own max before now (Err e) = Unit {0}

-- a script is valid if the opening stops at an end, or at the whole script's end, or opens the session with no session
-- event after that
abbrev pub IsValidBy : {S : Type 0} → ScriptStop → OpeningStop S → Ended → Type 0
IsValidBy st (opens_before s frames left) e = (frames ≡ []) × (st ≡ whole) × (e ≡ ScriptEnd)
IsValidBy st (stops_with stop) e = stop ≡ ended e
IsValidBy st through e = (st ≡ whole) × (e ≡ ScriptEnd)

-- for a valid script, if none of its other events stops the run, the result is its end or out of memory, if no count of
-- faults rises
abbrev pub IsOpeningComplete : {S : Type 0} → Machine S → Own → (Frame → RunStop → Type 0) → ℕ → Streams → Streams → FaultCounts → FaultCounts → Result Ended RunError → Type 0
IsOpeningComplete m own Cause max before now was is answer =
    (bytes : List ℕ) (e : Ended) → before.left ≡ Some bytes → IsValidBy (stop_of max bytes) (opening_since m own max before now bytes).stop e →
    ((stop : RunStop) → StoppedByOther own Cause (taken max bytes) stop → ⊥) → (Rose was.reads is.reads → ⊥) → (Rose was.writes is.writes → ⊥) → (answer ≡ Ok e) ⊎ (answer ≡ Err errors.NoMemory)
