-- States that a run comes to, and why it stops there.
use Rattle.std.specs.Prelude.{◌≡◌, ◌⊎◌, List, [], ◌∷◌, ◌++◌, None}
use Rattle.sshc_key.specs.Signers.{SignCall}
use Rattle.sshc_key.specs.Asking.{Answer, Makes}
use Rattle.sshc_run_script.specs.Machine.{RunStop, Onward, goes_on, opened, stopped, TurnOf, Turns, stop_next}
use Rattle.sshc_run_reader.specs.Script.{Frame, ScriptStop}
use Rattle.sshc_run_script.specs.ScriptRun.{at_end, answers_of}

-- these events, by the signer's answers in order, bring a run from the one state to the other, where that event is the
-- next
abbrev pub Comes : {S : Type 0} → Turns S → S → List Frame → List Answer → S → Frame → Type 0
Comes turn s [] answers s' frame' = ⊥
Comes {S = S} turn s (frame ∷ frames) answers s' frame' =
    ((s ≡ s') × (frame ≡ frame'))
    ⊎ ((t : TurnOf S) × (gained : List SignCall) × (left : List Answer) × Makes (turn s frame) gained t × (answers ≡ answers_of gained ++ left) × (stop_next t.next ≡ None) × Comes turn t.state frames left s' frame')

-- by the signer's answers in order the run goes on after each of these events
abbrev pub GoesThrough : {S : Type 0} → Turns S → S → List Frame → List Answer → Type 0
GoesThrough turn s [] answers = Unit {0}
GoesThrough {S = S} turn s (frame ∷ frames) answers =
    (t : TurnOf S) × (gained : List SignCall) × (left : List Answer) × Makes (turn s frame) gained t × (answers ≡ answers_of gained ++ left) × (stop_next t.next ≡ None) × GoesThrough turn t.state frames left

-- a stop is the one after the events, none of which stopped the run, or that of a turn: the run comes to a state and an
-- event that the cause is true of
abbrev pub CausedBy : {S : Type 0} → Turns S → S → (S → Frame → RunStop → Type 0) → List Frame → ScriptStop → List Answer → RunStop → Type 0
CausedBy {S = S} turn first Cause frames st answers stop =
    ((at_end st ≡ stop) × GoesThrough turn first frames answers) ⊎ ((s : S) × (frame : Frame) × Comes turn first frames answers s frame × Cause s frame stop)

-- a turn that stops the run has its cause
abbrev pub StopsFor : (RunStop → Type 0) → Onward → Type 0
StopsFor Cause goes_on = Unit {0}
StopsFor Cause opened = Unit {0}
StopsFor Cause (stopped stop) = Cause stop

-- the predicate is true of the state that a turn continues from
abbrev pub GoesOnIn : {S : Type 0} → (S → Type 0) → S → Onward → Type 0
GoesOnIn Holds s goes_on = Holds s
GoesOnIn Holds s opened = Holds s
GoesOnIn Holds s (stopped stop) = Unit {0}
