-- Each turn of a run that stops it has its cause, stated by the script, and so has each end and each refusal of a whole
-- run. No turn ends with the script's end.
use Rattle.std.proofs.Common.{◌≡◌, inl, inr, ℕ, true, Ok, Err, refl, subst, List, None, ◌⊎◌, ◌++◌, Some, Result, ap, sym, ◌∙◌}
use Rattle.sshc_auth.specs.declared.ended.Ended.TheVariants.{ScriptEnd}
use Rattle.sshc_client_table.specs.SessionRow.{Next, ends, refuses}
use Rattle.sshc_client_table.specs.OpenCauseLaws.{NextCaused, open_why, session_holds}
use Rattle.sshc_run_reader.specs.declared.error.EventError.TheVariants as reads
use Rattle.sshc_run_agent.specs.AgentTurns.{Served}
use Rattle.sshc_run_script.specs.Causes.{IsSessionStop, IsStopCause, IsEventCause, IsCaused}
use Rattle.sshc_run_script.specs.ReachedStates.{StopsFor, CausedBy}
use Rattle.sshc_run_script.specs.declared.error.RunError.TheVariants as errors
use Rattle.sshc_run_script.proofs.RunNames.{Always, Makes, always_on, always_makes, Event, asked_of, Accepts, goes, SessionState, is_open, default_opinions, EventError, event_of, Frame, SignCall, agents_turn, Hosts, Onward, stopped, ended, IsNoEnd, NeverAtEnd, TurnOf, stop_next, RunStop, RunState, run_turn, IsAgentCause, session_own, SessionTurn, in_session, onward, session_turn, Turn, asked_turn, IsReady, prepend, Answer, Ended, taken, stop_of, ScriptStop, RunError, unanswered_stop, Streams, stop_as, IsExact, Ends, Run, script_run, answers_of, answers_since, events_run, RunSettings, run_machine}
use Rattle.sshc_run_script.proofs.OpeningCauses.{refusal_shows, event_shows, asked_never}
use Rattle.sshc_run_script.proofs.AgentsTurns.{agents_never, agents_stop}
use Rattle.sshc_run_script.proofs.Products.{both_never}
use Rattle.sshc_run_script.proofs.SessionPart.{session_apart, run_by}
use Rattle.sshc_run_script.proofs.SessionTurns.{turn_by, turn_case, default_row}
use Rattle.sshc_run_script.proofs.OpeningTurns.{error_by}
use Rattle.sshc_run_script.proofs.ReadyTurns.{turn_ready}
use Rattle.sshc_run_script.proofs.RunLaws.{run_law}
use Rattle.sshc_run_script.proofs.Promises.{same_table, with_answers, answered}

-- ---- rows of an open session

module _ (hosts : Hosts) (accepts : Accepts) (w : SessionState) (frame : Frame) (event : Event) (read : event_of frame.kind frame.fields ≡ Ok event) where
  next_shows : (next : Next) → is_open w.opening.phase ≡ true → NextCaused (open_why w event) next → StopsFor (IsSessionStop hosts w frame) (onward frame.place next)
  next_shows goes is caused = tt
  next_shows (ends e) is caused = (event, read, caused)
  next_shows (refuses e) is caused = refusal_shows hosts w frame event read true e is caused

-- ---- every turn

-- the cause of a turn that stops
stops_so : (Cause : RunStop → Type 0) (next : Onward) (stop : RunStop) → StopsFor Cause next → next ≡ stopped stop → Cause stop
stops_so Cause (stopped x) stop stops is = let same : x ≡ stop = cc in subst Cause same stops
stops_so Cause next stop stops is = absurd cc

module _ (hosts : Hosts) (accepts : Accepts) where
  bad_shows : (w : SessionState) (frame : Frame) (e : EventError) → event_of frame.kind frame.fields ≡ Err e → IsEventCause hosts w frame (error_by frame.place e)
  bad_shows w frame reads.Bad is = (refl, is)
  bad_shows w frame reads.NoMemory is = tt

  -- every turn of the session
  session_shows : (w : SessionState) (frame : Frame) (gained : List SignCall) (t : SessionTurn) → IsReady w → Makes (session_turn hosts accepts w frame) gained t → StopsFor (IsSessionStop hosts w frame) t.next
  session_shows w frame gained t ready makes =
      turn_by hosts accepts w frame (λ read gained t. event_of frame.kind frame.fields ≡ read → StopsFor (IsSessionStop hosts w frame) t.next)
      (λ event on is. next_shows hosts accepts w frame event is (default_row accepts w event).next on (session_holds accepts (default_opinions w) w event on).caused)
      (λ event gained t un makes is.
      always_makes (λ (t : Turn). StopsFor (IsSessionStop hosts w frame) t.next) (asked_turn hosts frame.place w.opening event (asked_of w.opening event)) gained t (event_shows hosts w frame event is un (ready.unclosed un)) makes)
      (λ e is. bad_shows w frame e is) gained t makes refl

  -- a turn of a run that stops it has its cause, and after one from which it continues the session is ready
  abbrev pub ShowsCause : RunState → Frame → TurnOf RunState → Type 0
  ShowsCause s frame t = ((stop : RunStop) → t.next ≡ stopped stop → IsStopCause hosts s frame stop) × (stop_next t.next ≡ None → IsReady t.state.one)

  -- every turn of a run
  pub run_shows : (s : RunState) (frame : Frame) (gained : List SignCall) (t : TurnOf RunState) → IsReady s.one → Makes (run_turn hosts accepts s frame) gained t → ShowsCause s frame t
  run_shows s frame gained t ready =
      run_by hosts accepts s frame (λ gained t. ShowsCause s frame t)
      (λ mine gained t makes.
      ((λ stop is. inl (mine, stops_so (IsSessionStop hosts s.one frame) t.next stop (session_shows s.one frame gained t ready makes) is)), turn_ready hosts accepts s.one ready frame gained t makes))
      (λ mine gained t makes.
      let so = always_makes (λ (t : TurnOf Served). StopsFor (IsAgentCause frame) t.next) (agents_turn s.other frame) gained t (agents_stop s.other frame) makes in
      ((λ stop is. inr (mine, stops_so (IsAgentCause frame) t.next stop so is)), λ on. ready)) gained t

  -- ---- no turn ends with the script's end

  onward_never : (w : SessionState) (event : Event) (place : ℕ) (next : Next) → NextCaused (open_why w event) next → onward place next ≡ stopped (ended ScriptEnd) → ⊥
  onward_never w event place (ends ScriptEnd) never is = never
  onward_never w event place next caused is = cc

  session_never : NeverAtEnd (session_turn hosts accepts)
  session_never = λ w frame.
      turn_case hosts accepts w frame (λ read. Always IsNoEnd)
      (λ event on. onward_never w event frame.place (default_row accepts w event).next (session_holds accepts (default_opinions w) w event on).caused)
      (λ event un. always_on IsNoEnd IsNoEnd (in_session w) (asked_turn hosts frame.place w.opening event (asked_of w.opening event)) (λ t never. never) (asked_never hosts frame.place w.opening event)) (λ e is. cc)

  pub never_at_end : NeverAtEnd (run_turn hosts accepts)
  never_at_end = both_never session_own (session_turn hosts accepts) agents_turn (session_apart hosts accepts) session_never agents_never

-- ---- the run

module _ (hosts : Hosts) (accepts : Accepts) (st : ScriptStop) where
  -- no answer was left, or the stop has its cause
  abbrev Told : RunState → List Frame → List Answer → RunStop → Type 0
  Told s frames answers stop = (stop ≡ unanswered_stop) ⊎ CausedBy (run_turn hosts accepts) s (IsStopCause hosts) frames st answers stop

  -- a run comes to a state and an event that are the cause of its stop
  stops_caused : (frames : List Frame) (s : RunState) (answers : List Answer) → IsReady s.one → Told s frames answers (events_run (run_turn hosts accepts) s frames st answers).stop
  stops_caused =
      run_law (run_turn hosts accepts) st (λ s frames answers r. IsReady s.one → Told s frames answers r.stop) (λ s answers ready. inr (inl (refl, tt))) (λ s frame frames gained first ready. inl refl)
      (λ s frame frames gained left t stop makes is ready. inr (inr (s, frame, inl (refl, refl), (run_shows hosts accepts s frame gained t ready makes).0 stop is)))
      (λ s frame frames gained left t r makes on later ready.
      elim (later ((run_shows hosts accepts s frame gained t ready makes).1 on)) [
        | inl none ↦ inl none
        | inr told ↦ inr (elim told [
          | inl (end, through) ↦ inl (end, (t, gained, left, makes, refl, on, through))
          | inr (s', frame', comes, cause) ↦ inr (s', frame', inr (t, gained, left, makes, refl, on, comes), cause)
        ])
      ])

module _ (hosts : Hosts) (accepts : Accepts) (settings : RunSettings) (max : ℕ) where
  -- a stop of the table that is a result has its cause
  abbrev Caused : List Answer → List ℕ → RunStop → Type 0
  Caused answers bytes stop = CausedBy (run_turn hosts accepts) (run_machine hosts accepts settings).first (IsStopCause hosts) (taken max bytes) (stop_of max bytes) answers stop

  caused_exact : (bytes : List ℕ) (before now : Streams) (given : List ℕ) (gained : List SignCall) (a : Result Ended RunError) → before.left ≡ prepend given now.left → now.calls ≡ before.calls ++ gained → before.left ≡ Some bytes →
      IsExact (script_run (run_machine hosts accepts settings) max) given gained before now a → Caused (answers_since before.calls now.calls) bytes (stop_as a)
  caused_exact bytes before now given gained a read asked output exact =
      let same = same_table (script_run (run_machine hosts accepts settings) max) given bytes gained before now a read output exact in
      with_answers (λ (answers : List Answer). Caused answers bytes (stop_as a)) before now gained asked
      (elim (stops_caused hosts accepts (stop_of max bytes) (taken max bytes) (run_machine hosts accepts settings).first (answers_of gained) (record { runs = refl; taken = refl; unclosed = λ un. refl })) [
        | inl none ↦ absurd (answered a (sym exact.stop ∙ ap (λ (r : Run). r.stop) (sym same) ∙ none))
        | inr caused ↦ subst (λ (stop : RunStop). Caused (answers_of gained) bytes stop)
            (ap (λ (r : Run). r.stop) same ∙ exact.stop) caused
      ])

  -- each result has its cause
  pub caused_of : (before now : Streams) (a : Result Ended RunError) → Ends max 0 0 (script_run (run_machine hosts accepts settings) max) before now a → IsCaused hosts accepts settings max (answers_since before.calls now.calls) before.left a
  caused_of before now (Ok e) (given, gained, end) = λ bytes output. caused_exact bytes before now given gained (Ok e) end.read end.asked output end.by
  caused_of before now (Err errors.NoMemory) ran = λ bytes output. tt
  caused_of before now (Err errors.ReadFault) ran = λ bytes output. tt
  caused_of before now (Err errors.WriteFault) ran = λ bytes output. tt
  caused_of before now (Err e) (given, gained, end) = λ bytes output. caused_exact bytes before now given gained (Err e) end.read end.asked output end.by
