-- The opening run: a table folded over the events of a script until it opens the session.
-- A fold over a whole list; the code takes one event at a time.
use Rattle.std.specs.Prelude.{◌≡◌, List, [], ◌∷◌}
use Rattle.sshc_key.specs.Asking.{Answer}
use Rattle.sshc_run_reader.specs.Script.{Frame, ScriptStop}
use Rattle.sshc_run_script.specs.Prefixes.{IsFront}
use Rattle.sshc_run_script.specs.Machine.{RunStop, unanswered_stop, Onward, goes_on, opened, stopped, TurnOf, Turns}
use Rattle.sshc_run_script.specs.ScriptRun.{RunOf, Run, stopped_with, after, asked_run, at_end}

-- how the opening run stops: the session is open, and these events and answers remain; the run stops; or the list is
-- used up
pub data OpeningStop (S : Type 0) : Type 0 where
  opens_before : S → List Frame → List Answer → OpeningStop S
  stops_with : RunStop → OpeningStop S
  through : OpeningStop S

-- all records and calls in order, and how it stops
abbrev pub OpeningRun : Type 0 → Type 0
OpeningRun S = RunOf (OpeningStop S)

-- the run by its first turn
abbrev pub by_turn : {S : Type 0} → TurnOf S → Onward → List Frame → List Answer → OpeningRun S → OpeningRun S
by_turn t goes_on frames left later = after t.records [] later
by_turn t opened frames left later = stopped_with t.records (opens_before t.state frames left)
by_turn t (stopped stop) frames left later = stopped_with t.records (stops_with stop)

-- the events in order, with the signer's answers in order
unfoldable pub opening : {S : Type 0} → Turns S → S → List Frame → List Answer → OpeningRun S
opening turn s [] answers = stopped_with [] through
opening turn s (frame ∷ frames) answers =
    asked_run (stops_with unanswered_stop) (turn s frame) answers (λ t left. by_turn t t.next frames left (opening turn t.state frames left))

-- ---- a larger machine that begins as the opening

-- the records and the calls are the opening run's, and it stops in the same way; or, once it opens the session, they
-- are all of its records and calls followed by more, and if no event follows, the run stops at what follows the events
abbrev pub Prefixed : {A : Type 0} → ScriptStop → OpeningRun A → OpeningStop A → Run → Type 0
Prefixed st o (opens_before s frames left) r = IsFront o.records r.records × IsFront o.calls r.calls × (frames ≡ [] → r.stop ≡ at_end st)
Prefixed st o (stops_with stop) r = r ≡ record { records = o.records; calls = o.calls; stop = stop }
Prefixed st o through r = r ≡ record { records = o.records; calls = o.calls; stop = at_end st }
