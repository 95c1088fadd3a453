-- A whole run of a script by a machine: the records in order, the signer's calls in order, and how it stops. It is the
-- fold of the machine's turns over the script's events, and then what follows them.
use Rattle.std.specs.Prelude.{ℕ, ◌+◌, List, [], ◌∷◌, ◌++◌}
use Rattle.sshc_wire.specs.declared.record.Record.{Record}
use Rattle.sshc_key.specs.Signers.{SignCall, since}
use Rattle.sshc_key.specs.Asking.{Answer, Asking, done, asks, call_of}
use Rattle.sshc_auth.specs.declared.ended.Ended.TheVariants.{ScriptEnd}
use Rattle.sshc_run_script.specs.declared.error.RunError.TheVariants as errors
use Rattle.sshc_run_script.specs.Machine.{RunStop, ended, refused, unanswered_stop, Onward, goes_on, opened, stopped, TurnOf, Turns, Machine}
use Rattle.sshc_run_reader.specs.Script.{Frame, Head, size_of, ScriptStop, whole, bad, more, events, stop, taken, stop_of}

-- all records in order, the calls of the signer in order, and how it stops
pub record RunOf (E : Type 0) : Type 0 where
  pub records : List Record
  pub calls : List SignCall
  pub stop : E

abbrev pub Run : Type 0
Run = RunOf RunStop

-- only these records
abbrev pub stopped_with : {E : Type 0} → List Record → E → RunOf E
stopped_with records stop = record { records = records; calls = []; stop = stop }

-- these records and calls, and then the run
abbrev pub after : {E : Type 0} → List Record → List SignCall → RunOf E → RunOf E
after records calls r = record { records = records ++ r.records; calls = calls ++ r.calls; stop = r.stop }

-- calls of the signer, with these answers in order, and then the run; it stops if no answer remains
abbrev pub asked_run : {A : Type 0} {E : Type 0} → E → Asking A → List Answer → (A → List Answer → RunOf E) → RunOf E
asked_run wanting (done x) answers later = later x answers
asked_run wanting (asks asked on) [] later = stopped_with [] wanting
asked_run wanting (asks asked on) (answer ∷ answers) later = after [] (call_of asked answer ∷ []) (asked_run wanting (on answer) answers later)

-- the run by its first turn
abbrev pub run_on : {S : Type 0} → TurnOf S → Onward → Run → Run
run_on t goes_on later = after t.records [] later
run_on t opened later = after t.records [] later
run_on t (stopped stop) later = stopped_with t.records stop

-- ---- by the events and what follows them

-- after the last event that was taken
abbrev pub at_end : ScriptStop → RunStop
at_end whole = ended ScriptEnd
at_end (bad place) = refused (errors.BadEvent place)
at_end more = refused errors.ScriptTooLong

-- the events in order from a state, with the signer's answers in order
unfoldable pub events_run : {S : Type 0} → Turns S → S → List Frame → ScriptStop → List Answer → Run
events_run turn s [] st answers = stopped_with [] (at_end st)
events_run turn s (frame ∷ frames) st answers = asked_run unanswered_stop (turn s frame) answers (λ t left. run_on t t.next (events_run turn t.state frames st left))

-- the run of a script: its first events, and then what follows them
abbrev pub script_run : {S : Type 0} → Machine S → ℕ → List Answer → List ℕ → Run
script_run m max answers script = events_run m.turn m.first (taken max script) (stop_of max script) answers

-- what the signer answered in these calls
abbrev pub answers_of : List SignCall → List Answer
answers_of [] = []
answers_of (call ∷ calls) = call.answer ∷ answers_of calls

-- what it answered since
abbrev pub answers_since : List SignCall → List SignCall → List Answer
answers_since old new = answers_of (since old new)

-- ---- from one event on

-- the state of a run: the place of the next event, the last moment, and the machine's state
pub record Spot (S : Type 0) : Type 0 where
  pub place : ℕ
  pub last : ℕ
  pub state : S

abbrev pub spot : {S : Type 0} → ℕ → ℕ → S → Spot S
spot place last s = record { place = place; last = last; state = s }

abbrev pub at_first : {S : Type 0} → S → Spot S
at_first s = spot 0 0 s

abbrev pub spot_after : {S : Type 0} → Spot S → Head → S → Spot S
spot_after at head s = record { place = at.place + size_of head; last = head.0; state = s }

-- at most n events from a spot, with the signer's answers to come
abbrev pub Table : Type 0 → Type 0
Table S = ℕ → Spot S → List Answer → List ℕ → Run

-- the run from a spot: its first events, and then what follows them
unfoldable pub run : {S : Type 0} → Turns S → ℕ → Spot S → List Answer → List ℕ → Run
run turn n at answers bytes = events_run turn at.state (events n at.place at.last bytes) (stop n at.place at.last bytes) answers
