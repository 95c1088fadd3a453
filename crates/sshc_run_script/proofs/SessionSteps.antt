-- A step of the session is the run's turn, and the session is ready for the next afterwards.
use Rattle.std.proofs.Common.{◌≡◌, inl, inr, ℕ, Bool, true, false, List, [], ◌∷◌, ◌++◌, length, drop, Some, None, Err, refl, ap, sym, ◌∙◌}
use Rattle.std.specs.Option.{option_map}
use Rattle.sshc_auth.specs.declared.step.Step.{Step}
use Rattle.sshc_auth.specs.declared.step.Step.TheVariants as steps
use Rattle.sshc_auth.specs.Stepping.{Lent as OpeningLent, lent}
use Rattle.sshc_client_table.specs.declared.life.Life.{Life}
use Rattle.sshc_client_table.specs.declared.life.Life.TheVariants.{Runs}
use Rattle.sshc_client_table.specs.Moves.{done as when_done}
use Rattle.sshc_client_table.specs.SessionRow.{Next, ends as row_ends, refuses}
use Rattle.sshc_client_table.specs.SessionState.{opens_later}
use Rattle.sshc_client_state.specs.OpeningStep.{Lent, goes_on, life_if, outgoing}
use Rattle.sshc_client.specs.Stepping.{SessionStepped, StepsRow}
use Rattle.sshc_client_table.specs.KeptByMovesLaws.{front_says, stop_says}
use Rattle.sshc_run_script.specs.declared.known_hosts_handler.HandlerError.TheVariants.{Client}
use Rattle.sshc_run_script.specs.Handled.{Handled}
use Rattle.sshc_run_script.specs.Prefixes.{IsFront}
use Rattle.sshc_run_script.specs.Ready.{IsReadyAfter}
use Rattle.sshc_run_script.specs.SessionTurn.{row_turn}
use Rattle.sshc_run_script.proofs.RunNames.{Record, SignCall, since, Asking, done, asked_on, makes_on, first_on, Event, OpeningState, asked_of, Accepts, SessionRow, SessionState, is_live, is_open, session_row, all_moves, default_opinions, HandlerError, Hosts, stop_next, stop_as, IsReady, SessionTurn, emptied, in_session, onward, step_turn, Turn, asked_turn, handler_error_of, hosts_of, step_answer, Took, Came}
use Rattle.sshc_run_script.proofs.OpeningSteps.{hosts_gate, step_took}
use Rattle.sshc_run_script.proofs.TakenEvents.{unchanged, since_none}
use Rattle.sshc_run_script.proofs.ReadyTurns.{step_ready}

-- ---- before the session is open

-- if the run continues after a step's result, the session still runs
life_on : (place : ℕ) (result : Step HandlerError) → option_map stop_as (step_answer place result) ≡ None → life_if (goes_on result) ≡ Runs
life_on place steps.Went none = refl
life_on place steps.Opened none = refl
life_on place step none = absurd cc

module _ (s : SessionState) (ready : IsReady s) (place : ℕ) (result : Step HandlerError) (calls : List SignCall) (o : OpeningState) (output : List Record) (new : SessionState)
    (rest : new ≡ record s { opening = o; records = output; life = life_if (goes_on result) }) where
  -- the session after its records were taken
  emptied_is : (o' : OpeningState) → o ≡ o' → life_if (goes_on result) ≡ Runs → emptied new ≡ record s { opening = o' }
  emptied_is o' same life =
      ap emptied rest ∙ ap (λ (x : OpeningState). record s { opening = x; records = []; life = life_if (goes_on result) }) same
      ∙ ap (λ (l : Life). record s { opening = o'; records = []; life = l }) (life ∙ sym ready.runs)
      ∙ ap (λ (rs : List Record). record s { opening = o'; records = rs }) (sym ready.taken)

  said_is : new.records ≡ output
  said_is = ap (λ (x : SessionState). x.records) rest

  -- a step that was the opening's turn was the session's
  came_from : (asking : Asking Turn) → Took asking calls place result o output → Came (asked_on (in_session s) asking) calls place result (emptied new) new.records
  came_from asking (inl (none, want, first)) = inl (want, inl (first_on (in_session s) asking calls first, said_is ∙ none))
  came_from asking (inr (t, makes, same, state, stop)) =
      inr (in_session s t, makes_on (in_session s) asking calls t makes, said_is ∙ same, stop, λ none. emptied_is t.state state (life_on place result (sym stop ∙ none)))

pub later_opens : (s : SessionState) → IsReady s → is_open s.opening.phase ≡ false → opens_later s ≡ true
later_opens s ready un = rw (ready.runs, un) refl

-- ---- in an open session

module _ (place : ℕ) (row : SessionRow) (s new : SessionState) (taken : s.records ≡ []) where
  abbrev t : SessionTurn
  t = row_turn place s row

  -- if there were no records before, those of the row's moves are all
  all_said : t.records ≡ (when_done (all_moves row) s).records
  all_said = ap (λ (rs : List Record). drop (length rs) (when_done (all_moves row) s).records) taken

  stop_of : (next : Next) → row.next ≡ next → stop_next (onward place row.next) ≡ None → stop_next (onward place next) ≡ None
  stop_of next same none = ap (λ (x : Next). stop_next (onward place x)) (sym same) ∙ none

  row_came : (result : Step HandlerError) → StepsRow Client row s new result → Came (done (row_turn place s row)) [] place result (emptied new) new.records
  row_came steps.Went (next, same) = inr (t, refl, ap (λ (x : SessionState). x.records) same ∙ sym all_said, rw next refl, λ none. ap emptied same)
  row_came (steps.Ended e) (next, same) =
      inr (t, refl, ap (λ (x : SessionState). x.records) same ∙ stop_says (when_done (all_moves row) s) ∙ sym all_said, rw next refl, λ none. (let clash : stop_next (onward place (row_ends e)) ≡ None = stop_of (row_ends e) next none in absurd cc))
  row_came (steps.Refused x) (e, mid, told, same, inl (memory, fronts)) =
      let front : IsFront mid.records (when_done (all_moves row) s).records = front_says (all_moves row) s mid fronts in
      inl (
        ap (λ (y : HandlerError). Some (Err (handler_error_of place y))) (told ∙ ap Client memory),
        inr (t, refl, (front.0, all_said ∙ front.1 ∙ ap (λ (rs : List Record). rs ++ front.0) (sym (ap (λ (y : SessionState). y.records) same ∙ stop_says mid)))),
      )
  row_came (steps.Refused x) (e, mid, told, same, inr (next, moved)) =
      inr (t, refl, ap (λ (y : SessionState). y.records) same ∙ stop_says mid ∙ ap (λ (y : SessionState). y.records) moved ∙ sym all_said, rw (told, next) refl, λ none. (let clash : stop_next (onward place (refuses e)) ≡ None = stop_of (refuses e) next none in absurd cc))
  row_came steps.Opened never = absurd never
  row_came steps.Closed never = absurd never

-- ---- any step

module _ (hosts : Hosts) (accepts : Accepts) (place : ℕ) (event : Event) (was is : Lent) (result : Step HandlerError) (ready : IsReady was.session)
    (stepped : SessionStepped (hosts_gate hosts) accepts event was is result) where
  lives : is_open was.session.opening.phase ≡ true → is_live was.session ≡ true
  lives on = rw (ready.runs, on) refl

  came_by : (opened : Bool) → is_open was.session.opening.phase ≡ opened → Came (step_turn opened hosts accepts place was.session event) (since was.calls is.calls) place result (emptied is.session) is.session.records
  came_by false un =
      let so = stepped.opening (later_opens was.session ready un) in
      let before : OpeningLent = lent was.session.opening (outgoing was.session) was.calls was.signer_refusals in
      let now : OpeningLent = lent so.opening so.output is.calls is.signer_refusals in
      came_from was.session ready place result (since was.calls is.calls) so.opening so.output.records is.session so.rest (asked_turn hosts place was.session.opening event (asked_of was.session.opening event))
      (step_took hosts place event before now result ready.taken refl (so.stepped.row (ready.unclosed un)))
  came_by true on =
      let row = stepped.row (lives on) in
      rw (since_none was.calls is.calls row.1)
      (row_came place (session_row accepts (default_opinions was.session) was.session event) was.session is.session
      ready.taken result row.0)

  pub session_came : Came (step_turn (is_open was.session.opening.phase) hosts accepts place was.session event) (since was.calls is.calls) place result (emptied is.session) is.session.records
  session_came = came_by (is_open was.session.opening.phase) refl

  -- if the run continues, the session is what its turn left, which is ready
  ready_by : (step : Step HandlerError) → Came (step_turn (is_open was.session.opening.phase) hosts accepts place was.session event) (since was.calls is.calls) place step (emptied is.session) is.session.records → IsReadyAfter step (emptied is.session)
  ready_by steps.Went (inl (want, out)) = absurd cc
  ready_by steps.Went (inr (t, makes, output, stop, state)) = rw (state stop) (step_ready hosts accepts was.session ready place event (since was.calls is.calls) t makes stop)
  ready_by steps.Opened (inl (want, out)) = absurd cc
  ready_by steps.Opened (inr (t, makes, output, stop, state)) = rw (state stop) (step_ready hosts accepts was.session ready place event (since was.calls is.calls) t makes stop)
  ready_by step came = tt

  pub session_ready : IsReadyAfter result (emptied is.session)
  session_ready = ready_by result session_came

  gained_by : (opened : Bool) → is_open was.session.opening.phase ≡ opened → is.calls ≡ was.calls ++ since was.calls is.calls
  gained_by false un = (stepped.opening (later_opens was.session ready un)).stepped.signer.gained
  gained_by true on = unchanged was.calls is.calls (stepped.row (lives on)).1

  pub session_gained : is.calls ≡ was.calls ++ since was.calls is.calls
  session_gained = gained_by (is_open was.session.opening.phase) refl

-- a gate for which what it judges by doesn't change judges by the same host and the same known hosts text
pub hosts_kept : (old new : Handled) → new.host ∷ new.known ∷ [] ≡ old.host ∷ old.known ∷ [] → hosts_of new ≡ hosts_of old
hosts_kept old new same =
    let host : new.host ≡ old.host = cc in
    let known : new.known ≡ old.known = cc in
    ap (λ (h : List ℕ). record { host = h; known = new.known }) host ∙ ap (λ (k : List ℕ). record { host = old.host; known = k }) known
