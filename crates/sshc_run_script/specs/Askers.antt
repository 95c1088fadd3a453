-- The same run where each call takes the next answer with its asker. If the answers are those of the run's own calls,
-- it is the run that takes them in order.
use Rattle.std.specs.Prelude.{◌≡◌, ℕ, Bool, true, false, List, [], ◌∷◌, Option, Some, None, ◌==◌, if◌then◌else◌}
use Rattle.std.specs.Option.{option_map}
use Rattle.sshc_key.specs.Signers.{SignCall}
use Rattle.sshc_key.specs.declared.signer.Asker.{Asker}
use Rattle.sshc_key.specs.declared.signer.Asker.TheVariants.{Session, Agent}
use Rattle.sshc_key.specs.Asking.{SignRequest, Answer, Asking, done, asks, call_of}
use Rattle.sshc_run_script.specs.Machine.{unanswered_stop, Machine, Turns}
use Rattle.sshc_run_reader.specs.Script.{Frame, ScriptStop, taken, stop_of}
use Rattle.sshc_run_script.specs.ScriptRun.{Run, stopped_with, after, answers_of, at_end, run_on, script_run}

abbrev pub same_asker : Asker → Asker → Bool
same_asker Session Session = true
same_asker Session (Agent b) = false
same_asker (Agent a) Session = false
same_asker (Agent a) (Agent b) = a == b

-- the next answer with this asker, and the calls without it
abbrev pub next_by : Asker → List SignCall → Option (Answer × List SignCall)
next_by by [] = None
next_by by (call ∷ calls) =
    if same_asker by call.by then Some (call.answer, calls)
    else option_map (λ (found : Answer × List SignCall). (found.0, call ∷ found.1)) (next_by by calls)

abbrev pub with_next : SignRequest → Option (Answer × List SignCall) → (Answer → List SignCall → Run) → Run
with_next asked None later = stopped_with [] unanswered_stop
with_next asked (Some (answer, left)) later = after [] (call_of asked answer ∷ []) (later answer left)

abbrev pub asked_by : {A : Type 0} → Asking A → List SignCall → (A → List SignCall → Run) → Run
asked_by (done x) output later = later x output
asked_by (asks asked on) output later = with_next asked (next_by asked.by output) (λ answer left. asked_by (on answer) left later)

unfoldable pub events_by : {S : Type 0} → Turns S → S → List Frame → ScriptStop → List SignCall → Run
events_by turn s [] st output = stopped_with [] (at_end st)
events_by turn s (frame ∷ frames) st output = asked_by (turn s frame) output (λ t left. run_on t t.next (events_by turn t.state frames st left))

-- over a whole script the machine makes just these calls of the signer, whether it takes their answers in order or each
-- call the next answer with its asker
abbrev pub AreCallsByAsker : {S : Type 0} → Machine S → ℕ → List SignCall → Option (List ℕ) → Type 0
AreCallsByAsker m max calls script =
    (bytes : List ℕ) → script ≡ Some bytes →
    ((script_run m max (answers_of calls) bytes).calls ≡ calls) × (events_by m.turn m.first (taken max bytes) (stop_of max bytes) calls ≡ script_run m max (answers_of calls) bytes)
