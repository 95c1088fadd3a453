-- Each step of an open session along a run has the laws of a step: the table's turn follows its row, with the default
-- answer of a handler that does nothing to the session.
use Rattle.std.proofs.Common.{◌≡◌, ◌⊎◌, inr, ℕ, true, false, List, [], ◌∷◌, length, drop, Option, Some, None, Ok, refl, ap, sym, ◌∙◌, subst}
use Rattle.std.specs.List.{AllByRecursion}
use Rattle.sshc_client_table.specs.declared.open_answer.OpenAnswer.TheVariants.{Accept}
use Rattle.sshc_client_table.specs.GrownLaws.{done-append, grown_same}
use Rattle.sshc_client_table.specs.Moves.{Fronts, Move, after, done as when_done, onto}
use Rattle.sshc_client_table.specs.SessionRow.{Callback, Next}
use Rattle.sshc_client_table.specs.StepLaws.{Borrowed, Followed, OpenStepLaws, RowsKeepTheLaws, behind, whole}
use Rattle.sshc_client_state.specs.Start.{new_session}
use Rattle.sshc_run_script.specs.OpenSteps.{KeepsStepLaws, StepsKeepLaws, continues, untaken}
use Rattle.sshc_run_script.specs.Path.{StepOf, step_of}
use Rattle.sshc_run_script.specs.SessionPaths.{EachPath}
use Rattle.sshc_run_script.specs.SessionTurn.{row_turn}
use Rattle.sshc_run_script.proofs.RunNames.{Record, SignCall, Answer, Makes, Event, Accepts, SessionRow, goes, SessionState, is_open, is_live, session_row, all_moves, default_opinions, Frame, taken, RunSettings, Hosts, stop_next, own_events, session_own, SessionTurn, onward, session_turn, IsReady}
use Rattle.sshc_run_script.proofs.PathLaws.{along}
use Rattle.sshc_run_script.proofs.SessionTurns.{turn_by}
use Rattle.sshc_run_script.proofs.ReadyTurns.{turn_ready}

-- ---- a row that is followed whole

whole_front : (moves : List Move) (s : SessionState) → Fronts moves s (when_done moves s)
whole_front [] s = refl
whole_front (m ∷ moves) s = inr (whole_front moves (after m s))

two_parts : (front back : List Move) (s : SessionState) → when_done (onto front back) s ≡ when_done back (when_done front s)
two_parts front [] s = refl
two_parts front (m ∷ back) s = done-append front (m ∷ back) s

nothing_borrowed : (callback : Option Callback) (s : SessionState) → Borrowed callback s s
nothing_borrowed None s = refl
nothing_borrowed (Some callback) s = grown_same s

row_followed : (place : ℕ) (row : SessionRow) (next : Next) (s : SessionState) → row.next ≡ next → Followed row s (when_done (all_moves row) s) (continues (onward place next))
row_followed place row goes s is = whole (when_done row.front s) Accept is (nothing_borrowed row.asks (when_done row.front s)) (two_parts row.front (row.back Accept) s)
row_followed place row next s is =
    behind (when_done row.front s) Accept (nothing_borrowed row.asks (when_done row.front s))
    (subst (Fronts (row.back Accept) (when_done row.front s)) (sym (two_parts row.front (row.back Accept) s)) (whole_front (row.back Accept) (when_done row.front s)))

-- ---- a step

module _ (laws : RowsKeepTheLaws) (hosts : Hosts) (accepts : Accepts) where
  -- all records of a row are those of its moves
  untaken_is : (place : ℕ) (row : SessionRow) (s : SessionState) → s.records ≡ [] → when_done (all_moves row) s ≡ untaken (row_turn place s row)
  untaken_is place row s none = ap (λ (rs : List Record). record (when_done (all_moves row) s) { records = drop (length rs) (when_done (all_moves row) s).records }) (sym none)

  row_keeps : (place : ℕ) (s : SessionState) (event : Event) → IsReady s → is_open s.opening.phase ≡ true →
      OpenStepLaws accepts event s (untaken (row_turn place s (session_row accepts (default_opinions s) s event))) (continues (onward place (session_row accepts (default_opinions s) s event).next))
  row_keeps place s event so on =
      let row : SessionRow = session_row accepts (default_opinions s) s event in
      let live : is_live s ≡ true = rw (so.runs, on) refl in
      subst (λ (new : SessionState). OpenStepLaws accepts event s new (continues (onward place row.next))) (untaken_is place row s so.taken)
      (laws accepts (default_opinions s) event s (when_done (all_moves row) s) (continues (onward place row.next)) live (row_followed place row row.next s refl))

  step_sound : (s : SessionState) (frame : Frame) (gained : List SignCall) (t : SessionTurn) → IsReady s → Makes (session_turn hosts accepts s frame) gained t → KeepsStepLaws accepts (step_of s frame gained t)
  step_sound s frame gained t so makes = λ on event is.
      turn_by hosts accepts s frame (λ read gained t. (event : Event) → read ≡ Ok event → OpenStepLaws accepts event s (untaken t) (continues t.next))
      (λ event' on' event is. let same : event' ≡ event = cc in subst (λ (e : Event). OpenStepLaws accepts e s (untaken (row_turn frame.place s (session_row accepts (default_opinions s) s event'))) (continues (onward frame.place (session_row accepts (default_opinions s) s event').next))) same (row_keeps frame.place s event' so on'))
      (λ event' gained t un makes event is. let clash : true ≡ false = sym on ∙ un in absurd cc) (λ e event is. absurd cc) gained t makes event is

-- ---- along a run

-- what each step adds to, from a state that is ready for an event, adds up
pub session_along : (hosts : Hosts) (accepts : Accepts) (Ledger : SessionState → List (StepOf SessionState) → SessionState → Type 0) → ((s : SessionState) → Ledger s [] s) →
    ((s : SessionState) (frame : Frame) (gained : List SignCall) (t : SessionTurn) (steps : List (StepOf SessionState)) (s' : SessionState) → IsReady s → Makes (session_turn hosts accepts s frame) gained t → (steps ≡ []) ⊎ (stop_next t.next ≡ None) → Ledger t.state steps s' → Ledger s (step_of s frame gained t ∷ steps) s') →
    (settings : RunSettings) (max : ℕ) (answers : List Answer) (script : Option (List ℕ)) → EachPath hosts accepts settings max answers script (Ledger (new_session settings.session settings.opening))
session_along hosts accepts Ledger none adds settings max answers script = λ bytes output steps s path.
    along (session_turn hosts accepts) IsReady Ledger none (λ s frame gained t ready. turn_ready hosts accepts s ready frame gained t) adds (own_events session_own (taken max bytes)) (new_session settings.session settings.opening) answers steps s (record { runs = refl; taken = refl; unclosed = λ un. refl }) path

pub steps_keep : RowsKeepTheLaws → (hosts : Hosts) (accepts : Accepts) (settings : RunSettings) (max : ℕ) (answers : List Answer) (script : Option (List ℕ)) → StepsKeepLaws hosts accepts settings max answers script
steps_keep laws hosts accepts =
    session_along hosts accepts (λ s steps s'. AllByRecursion (KeepsStepLaws accepts) steps) (λ s. tt) (λ s frame gained t steps s' so makes on later. (step_sound laws hosts accepts s frame gained t so makes, later))
