-- A law of every run of any machine, by its first turn: no answer is left, the turn stops the run, or the run
-- continues.
use Rattle.std.proofs.Common.{◌≡◌, List, [], ◌∷◌, ◌++◌, None, refl, ap}
use Rattle.sshc_run_script.proofs.RunNames.{SignCall, Answer, Asking, done, asks, call_of, Makes, MakesFirst, Frame, ScriptStop, RunStop, unanswered_stop, Onward, stopped, TurnOf, Turns, stop_next, Run, RunOf, after, answers_of, asked_run, at_end, events_run, run_on, stopped_with}

-- the run stopped at a call without an answer, after these calls
abbrev pub wanting_after : {E : Type 0} → E → List SignCall → RunOf E
wanting_after wanting gained = record { records = []; calls = gained; stop = wanting }

-- what holds where no answer is left, and after the calls by what they come to, holds of the run
pub asked_law : {A : Type 0} {E : Type 0} (P : List Answer → RunOf E → Type 0) (wanting : E) (asking : Asking A) (answers : List Answer) (later : A → List Answer → RunOf E) →
    ((gained : List SignCall) → MakesFirst asking gained → P (answers_of gained) (wanting_after wanting gained)) →
    ((gained : List SignCall) (x : A) (left : List Answer) → Makes asking gained x → P (answers_of gained ++ left) (after [] gained (later x left))) → P answers (asked_run wanting asking answers later)
asked_law P wanting (done x) answers later none each = each [] x answers refl
asked_law P wanting (asks asked on) [] later none each = none [] tt
asked_law {E = E} P wanting (asks asked on) (answer ∷ answers) later none each =
    asked_law (λ (rest : List Answer) (r : RunOf E). P (answer ∷ rest) (after [] (call_of asked answer ∷ []) r)) wanting (on answer) answers later
    (λ gained first. none (call_of asked answer ∷ gained) (refl, first)) (λ gained x left makes. each (call_of asked answer ∷ gained) x left (refl, makes))

module _ {S : Type 0} (turn : Turns S) (st : ScriptStop) (P : S → List Frame → List Answer → Run → Type 0)
    (ends : (s : S) (answers : List Answer) → P s [] answers (stopped_with [] (at_end st)))
    (wants : (s : S) (frame : Frame) (frames : List Frame) (gained : List SignCall) → MakesFirst (turn s frame) gained → P s (frame ∷ frames) (answers_of gained) (wanting_after unanswered_stop gained))
    (stops : (s : S) (frame : Frame) (frames : List Frame) (gained : List SignCall) (left : List Answer) (t : TurnOf S) (stop : RunStop) → Makes (turn s frame) gained t → t.next ≡ stopped stop →
    P s (frame ∷ frames) (answers_of gained ++ left) (after [] gained (stopped_with t.records stop)))
    (goes : (s : S) (frame : Frame) (frames : List Frame) (gained : List SignCall) (left : List Answer) (t : TurnOf S) (r : Run) → Makes (turn s frame) gained t → stop_next t.next ≡ None →
    P t.state frames left r → P s (frame ∷ frames) (answers_of gained ++ left) (after t.records gained r)) where
  by_next : (s : S) (frame : Frame) (frames : List Frame) (gained : List SignCall) (left : List Answer) (t : TurnOf S) (next : Onward) (r : Run) → Makes (turn s frame) gained t → t.next ≡ next → P t.state frames left r →
      P s (frame ∷ frames) (answers_of gained ++ left) (after [] gained (run_on t next r))
  by_next s frame frames gained left t (stopped stop) r makes is later = stops s frame frames gained left t stop makes is
  by_next s frame frames gained left t next r makes is later = goes s frame frames gained left t r makes (ap stop_next is) later

  -- so it holds of every run
  pub run_law : (frames : List Frame) (s : S) (answers : List Answer) → P s frames answers (events_run turn s frames st answers)
  unfolding events_run
  run_law [] s answers = ends s answers
  run_law (frame ∷ frames) s answers =
      asked_law (P s (frame ∷ frames)) unanswered_stop (turn s frame) answers (λ t left. run_on t t.next (events_run turn t.state frames st left)) (wants s frame frames)
      (λ gained t left makes. by_next s frame frames gained left t t.next (events_run turn t.state frames st left) makes refl (run_law frames t.state left))
