-- The answers in order are those by asker, if they are the answers of the run's own calls.
use Rattle.std.proofs.Common.{◌≡◌, ℕ, Result, true, List, [], ◌∷◌, refl, ap, sym, ◌∙◌, arith}
use Rattle.std.proofs.lemmas.Bool.Decides.{nat_tests}
use Rattle.sshc_key.specs.declared.signer.Asker.{Asker}
use Rattle.sshc_key.specs.declared.signer.Asker.TheVariants.{Session, Agent}
use Rattle.sshc_run_script.specs.Askers.{AreCallsByAsker, same_asker, asked_by, events_by}
use Rattle.sshc_run_script.proofs.RunNames.{SignCall, since, SignRequest, Answer, Asking, done, asks, call_of, unanswered_stop, Onward, stopped, Machine, TurnOf, Turns, Frame, ScriptStop, taken, stop_of, Run, after, run_on, asked_run, answers_of, events_run, script_run, Streams, Ends, RunError, Ended}
use Rattle.sshc_run_script.proofs.OpeningFirsts.{made_of}

same_self : (a : Asker) → same_asker a a ≡ true
same_self Session = refl
same_self (Agent n) = grind (arith, nat_tests)

by_next : {T : Type 0} (asked : SignRequest) (on : Answer → Asking T) (call : SignCall) (calls : List SignCall) (later : T → List SignCall → Run) → call.by ≡ asked.by →
    asked_by (asks asked on) (call ∷ calls) later ≡ after [] (call_of asked call.answer ∷ []) (asked_by (on call.answer) calls later)
by_next asked on call calls later is = rw (is, same_self asked.by) refl

asked_in_order : {T : Type 0} (asking : Asking T) (output : List SignCall) (by_asker : T → List SignCall → Run) (in_order : T → List Answer → Run) →
    ((x : T) (left : List SignCall) → (in_order x (answers_of left)).calls ≡ left → by_asker x left ≡ in_order x (answers_of left)) →
    (asked_run unanswered_stop asking (answers_of output) in_order).calls ≡ output → asked_by asking output by_asker ≡ asked_run unanswered_stop asking (answers_of output) in_order
asked_in_order (done x) output by_asker in_order each made = each x output made
asked_in_order (asks asked on) [] by_asker in_order each made = refl
asked_in_order (asks asked on) (call ∷ output) by_asker in_order each made =
    let here : call_of asked call.answer ≡ call = cc in
    let behind : (asked_run unanswered_stop (on call.answer) (answers_of output) in_order).calls ≡ output = cc in
    by_next asked on call output by_asker (ap (λ (c : SignCall). c.by) (sym here))
    ∙ ap (λ (r : Run). after [] (call_of asked call.answer ∷ []) r) (asked_in_order (on call.answer) output by_asker in_order each behind)

turn_in_order : {S : Type 0} (t : TurnOf S) (next : Onward) (left : List SignCall) (r r' : Run) → (r'.calls ≡ left → r ≡ r') → (run_on t next r').calls ≡ left → run_on t next r ≡ run_on t next r'
turn_in_order t (stopped stop) left r r' later made = refl
turn_in_order t next left r r' later made = ap (λ (x : Run). after t.records [] x) (later made)

-- a run whose calls are these takes their answers by asker as it takes them in order
pub events_in_order : {S : Type 0} (turn : Turns S) (st : ScriptStop) (frames : List Frame) (s : S) (output : List SignCall) → (events_run turn s frames st (answers_of output)).calls ≡ output → events_by turn s frames st output ≡ events_run turn s frames st (answers_of output)
unfolding events_by events_run
events_in_order turn st [] s output made = refl
events_in_order turn st (frame ∷ frames) s output made =
    asked_in_order (turn s frame) output (λ t left. run_on t t.next (events_by turn t.state frames st left)) (λ t left. run_on t t.next (events_run turn t.state frames st left))
    (λ t left. turn_in_order t t.next left (events_by turn t.state frames st left) (events_run turn t.state frames st (answers_of left)) (events_in_order turn st frames t.state left)) made

-- so the calls of a run that ended are those of its table over the whole script
pub calls_by_asker : {S : Type 0} (m : Machine S) (max : ℕ) (before now : Streams) (a : Result Ended RunError) → Ends max 0 0 (script_run m max) before now a → AreCallsByAsker m max (since before.calls now.calls) before.left
calls_by_asker m max before now a ends = λ bytes output.
    let made = made_of m max before now a ends bytes output in
    (made, events_in_order m.turn (stop_of max bytes) (taken max bytes) m.first (since before.calls now.calls) made)
