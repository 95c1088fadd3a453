-- What a turn leaves: a session that was ready for an event is ready for the next, if the run continues. After a turn
-- of the opening that continues the session isn't open yet, and its opening is closed if and only if it was before;
-- after one that opens the session it is open. None of its records is an agent's.
use Rattle.std.proofs.Common.{◌≡◌, ℕ, Bool, true, false, List, None, refl, ap, sym, ◌∙◌, subst}
use Rattle.sshc_client_table.specs.OpeningStays.{StaysNext, Stays}
use Rattle.sshc_client_table.specs.OpeningStaysLaws.{open_stays}
use Rattle.sshc_client_table.specs.SessionRecords.{AreSessions}
use Rattle.sshc_client_table.specs.KeptByMovesLaws.{moves_keep}
use Rattle.sshc_client_table.specs.OpenCauseLaws.{all_keep, session_holds}
use Rattle.sshc_client_table.specs.declared.open_answer.OpenAnswer.TheVariants.{Accept}
use Rattle.sshc_run_agent.specs.TurnLaws.{on_made}
use Rattle.sshc_run_script.specs.SessionTurn.{row_turn as open_turn}
use Rattle.sshc_run_script.proofs.RunNames.{Always, always_on, Event, OpeningState, open_row, asked_of, Row, Next, stays, is_open, Frame, Hosts, Onward, goes_on, opened, stopped, Turn, next_turn, row_turn, asked_turn, opening_turn, SessionState, Accepts, SessionRow, all_moves, default_opinions, SignCall, Makes, always_makes, stop_next, IsReady, in_session, SessionTurn, step_turn, session_turn}
use Rattle.sshc_run_script.proofs.OpeningTurns.{event_case, opening_case, made_done}
use Rattle.sshc_run_script.proofs.SessionTurns.{default_row, turn_by}

-- the opening after a turn, by how the run continues
abbrev pub Leaves : Bool → Onward → OpeningState → Type 0
Leaves closed goes_on t = (t.closed ≡ closed) × (is_open t.phase ≡ false)
Leaves closed opened t = is_open t.phase ≡ true
Leaves closed (stopped stop) t = Unit {0}

abbrev pub TurnLeaves : Bool → Turn → Type 0
TurnLeaves closed t = Leaves closed t.next t.state × AreSessions t.records

next_leaves : (closed : Bool) (place : ℕ) (s : OpeningState) (row : Row) (next : Next) → StaysNext closed next → AreSessions row.records → TurnLeaves closed (next_turn place s row next)
next_leaves closed place s row (stays t) so says = (so, says)
next_leaves closed place s row next so says = (so, says)

-- a turn of an event that is read
pub asked_leaves : (hosts : Hosts) (place : ℕ) (s : OpeningState) (event : Event) → is_open s.phase ≡ false → Always (TurnLeaves s.closed) (asked_turn hosts place s event (asked_of s event))
asked_leaves hosts place s event unopened =
    event_case hosts place s event (Always (TurnLeaves s.closed))
    (λ told was.
    always_on (Stays s.closed) (TurnLeaves s.closed) (row_turn place s) (open_row s event told) (λ row so. next_leaves s.closed place s row row.next so.0 so.1) (open_stays s event told unopened))
    (λ key e asked is. (tt, tt))

pub opening_leaves : (hosts : Hosts) (s : OpeningState) (frame : Frame) → is_open s.phase ≡ false → Always (TurnLeaves s.closed) (opening_turn hosts s frame)
opening_leaves hosts s frame unopened = opening_case hosts s frame (λ read. Always (TurnLeaves s.closed)) (λ event. asked_leaves hosts frame.place s event unopened) (λ e. (tt, tt))

-- ---- a session that is ready

-- the opening after a turn that continues is closed only if it was
leaves_unclosed : (closed : Bool) (next : Onward) (o : OpeningState) → closed ≡ false → Leaves closed next o → stop_next next ≡ None → is_open o.phase ≡ false → o.closed ≡ false
leaves_unclosed closed goes_on o fresh so on un = so.0 ∙ fresh
leaves_unclosed closed opened o fresh so on un = let clash : true ≡ false = sym so ∙ un in absurd cc
leaves_unclosed closed (stopped stop) o fresh so on un = absurd cc

module _ (hosts : Hosts) (accepts : Accepts) (s : SessionState) (ready : IsReady s) where
  -- the turn of a row, whose moves keep the phase
  row_ready : (place : ℕ) (event : Event) → is_open s.opening.phase ≡ true → IsReady (open_turn place s (default_row accepts s event)).state
  row_ready place event on =
      let row : SessionRow = default_row accepts s event in
      let kept = moves_keep (all_moves row) s (all_keep s event row Accept (session_holds accepts (default_opinions s) s event on)) in
      record { runs = kept.life ∙ ready.runs; taken = refl; unclosed = λ un. let clash : true ≡ false = sym (ap is_open kept.phase ∙ on) ∙ un in absurd cc }

  opening_ready : (place : ℕ) (event : Event) (gained : List SignCall) (t : Turn) → is_open s.opening.phase ≡ false → Makes (asked_turn hosts place s.opening event (asked_of s.opening event)) gained t → stop_next t.next ≡ None → IsReady (in_session s t).state
  opening_ready place event gained t un makes on =
      let leaves = always_makes (TurnLeaves s.opening.closed) (asked_turn hosts place s.opening event (asked_of s.opening event)) gained t (asked_leaves hosts place s.opening event un) makes in
      record { runs = ready.runs; taken = ready.taken; unclosed = leaves_unclosed s.opening.closed t.next t.state (ready.unclosed un) leaves.0 on }

  -- a step of an event that is read
  pub step_ready : (place : ℕ) (event : Event) (gained : List SignCall) (t : SessionTurn) → Makes (step_turn (is_open s.opening.phase) hosts accepts place s event) gained t → stop_next t.next ≡ None → IsReady t.state
  step_ready place event gained t makes on = by (is_open s.opening.phase) refl makes
    where
      by : (opened : Bool) → is_open s.opening.phase ≡ opened → Makes (step_turn opened hosts accepts place s event) gained t → IsReady t.state
      by true live made = made_done (λ (calls : List SignCall) (t : SessionTurn). IsReady t.state) (open_turn place s (default_row accepts s event)) (row_ready place event live) gained t made
      by false un made =
          let turn = on_made (in_session s) (asked_turn hosts place s.opening event (asked_of s.opening event)) gained t made in
          subst (λ (t : SessionTurn). IsReady t.state) turn.2 (opening_ready place event gained turn.0 un turn.1 (ap (λ (t : SessionTurn). stop_next t.next) turn.2 ∙ on))

  -- every turn
  pub turn_ready : (frame : Frame) (gained : List SignCall) (t : SessionTurn) → Makes (session_turn hosts accepts s frame) gained t → stop_next t.next ≡ None → IsReady t.state
  turn_ready frame =
      turn_by hosts accepts s frame (λ read gained t. stop_next t.next ≡ None → IsReady t.state) (λ event live on. row_ready frame.place event live)
      (λ event gained t un makes on. opening_ready frame.place event gained t un makes on) (λ e on. absurd cc)
