-- A turn of the session by what it comes from: the row of an open session, the turn of the opening, or fields that can't
-- be read. Each law of a step of a run is one use of this.
use Rattle.std.proofs.Common.{◌≡◌, Bool, true, false, List, [], Result, Ok, Err, refl, subst}
use Rattle.sshc_run_agent.specs.TurnLaws.{on_made}
use Rattle.sshc_run_reader.specs.declared.error.EventError.TheVariants as reads
use Rattle.sshc_run_script.specs.SessionTurn.{row_turn}
use Rattle.sshc_run_script.proofs.RunNames.{SignCall, Makes, done, Asking, asked_on, Event, asked_of, Accepts, SessionState, is_open, session_row, default_opinions, EventError, event_of, Frame, SessionRow, Hosts, SessionTurn, in_session, step_turn, read_turn, session_turn, Turn, asked_turn, stops}
use Rattle.sshc_run_script.proofs.OpeningTurns.{error_by, made_done}

-- the row of an event in an open session, with a handler's default answers
abbrev pub default_row : Accepts → SessionState → Event → SessionRow
default_row accepts s event = session_row accepts (default_opinions s) s event

module _ (hosts : Hosts) (accepts : Accepts) (s : SessionState) (frame : Frame) where
  module _ (P : Result Event EventError → Asking SessionTurn → Type 0)
      (row : (event : Event) → is_open s.opening.phase ≡ true → P (Ok event) (done (row_turn frame.place s (default_row accepts s event))))
      (opening : (event : Event) → is_open s.opening.phase ≡ false → P (Ok event) (asked_on (in_session s) (asked_turn hosts frame.place s.opening event (asked_of s.opening event))))
      (bad : (e : EventError) → P (Err e) (done (stops s (error_by frame.place e)))) where
    step_case : (opened : Bool) (event : Event) → is_open s.opening.phase ≡ opened → P (Ok event) (step_turn opened hosts accepts frame.place s event)
    step_case true event on = row event on
    step_case false event un = opening event un

    read_case : (read : Result Event EventError) → P read (read_turn hosts accepts frame.place s read)
    read_case (Ok event) = step_case (is_open s.opening.phase) event refl
    read_case (Err reads.Bad) = bad reads.Bad
    read_case (Err reads.NoMemory) = bad reads.NoMemory

    -- what holds in each case holds of the turn
    pub turn_case : P (event_of frame.kind frame.fields) (session_turn hosts accepts s frame)
    unfolding session_turn
    turn_case = read_case (event_of frame.kind frame.fields)

  -- the same by the calls of the signer and the turn that they make
  pub turn_by : (Q : Result Event EventError → List SignCall → SessionTurn → Type 0) → ((event : Event) → is_open s.opening.phase ≡ true → Q (Ok event) [] (row_turn frame.place s (default_row accepts s event))) →
      ((event : Event) (gained : List SignCall) (t : Turn) → is_open s.opening.phase ≡ false → Makes (asked_turn hosts frame.place s.opening event (asked_of s.opening event)) gained t → Q (Ok event) gained (in_session s t)) →
      ((e : EventError) → Q (Err e) [] (stops s (error_by frame.place e))) → (gained : List SignCall) (t : SessionTurn) → Makes (session_turn hosts accepts s frame) gained t → Q (event_of frame.kind frame.fields) gained t
  turn_by Q row opening bad =
      turn_case (λ read asking. (gained : List SignCall) (t : SessionTurn) → Makes asking gained t → Q read gained t)
      (λ event on. made_done (Q (Ok event)) (row_turn frame.place s (default_row accepts s event)) (row event on))
      (λ event un gained t makes.
      let turn = on_made (in_session s) (asked_turn hosts frame.place s.opening event (asked_of s.opening event)) gained t makes in
      subst (Q (Ok event) gained) turn.2 (opening event gained turn.0 un turn.1))
      (λ e. made_done (Q (Err e)) (stops s (error_by frame.place e)) (bad e))
