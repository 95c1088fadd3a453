-- A run as a path: the turns of its events one after another, from the first state to the last, with the turn that
-- stopped the run where one did. What is guaranteed of every path is guaranteed of each state that a run comes to, and of
-- its last event.
use Rattle.std.specs.Prelude.{◌≡◌, ◌⊎◌, List, [], ◌∷◌, ◌++◌, None}
use Rattle.sshc_key.specs.Signers.{SignCall}
use Rattle.sshc_key.specs.Asking.{Answer, Makes}
use Rattle.sshc_run_script.specs.Machine.{TurnOf, Turns, stop_next}
use Rattle.sshc_run_reader.specs.Script.{Frame}
use Rattle.sshc_run_script.specs.ScriptRun.{answers_of}

-- one event of a run: the state before it, the event, the calls of the signer, and its turn
pub record StepOf (S : Type 0) : Type 0 where
  pub before : S
  pub frame : Frame
  pub gained : List SignCall
  pub turn : TurnOf S

abbrev pub step_of : {S : Type 0} → S → Frame → List SignCall → TurnOf S → StepOf S
step_of before frame gained turn = record { before = before; frame = frame; gained = gained; turn = turn }

-- the first of these events, by the signer's answers in order, are these steps from the one state to the other. A turn
-- that stops the run is the last; whatever the signer answers to the last is a path
abbrev pub Path : {S : Type 0} → Turns S → S → List Frame → List Answer → List (StepOf S) → S → Type 0
Path turn s frames answers [] s' = s ≡ s'
Path turn s [] answers (x ∷ steps) s' = ⊥
Path turn s (frame ∷ frames) answers (x ∷ steps) s' =
    (x ≡ step_of s frame x.gained x.turn) × Makes (turn s frame) x.gained x.turn
    × (((steps ≡ []) × (x.turn.state ≡ s')) ⊎ ((left : List Answer) × (stop_next x.turn.next ≡ None) × (answers ≡ answers_of x.gained ++ left) × Path turn x.turn.state frames left steps s'))
