-- Along a run the session asks the signer at most once for each request by a key of which the pair is available: a call
-- is for the stored request, which isn't stored any more after that.
use Rattle.std.proofs.Common.{◌≡◌, ◌∙◌, ◌≤◌, ◌+◌, inl, inr, ℕ, List, [], ◌∷◌, ◌++◌, length, length-append, Option, Some, None, Result, refl, ap, sym, subst, arith}
use Rattle.sshc_auth_event.specs.declared.event.Event.TheVariants as events
use Rattle.sshc_auth_event.specs.declared.method.Method.{Method}
use Rattle.sshc_auth_event.specs.declared.method.Method.TheVariants as methods
use Rattle.sshc_auth.specs.KeepLaws.{KeepsAsked, KeepsAsking, KeepsNext, SettledNext, open_keeps, Keeps}
use Rattle.sshc_auth.specs.SessionWords.{Kept, KeepsRequest, SignsStored, Stores, kept_of}
use Rattle.sshc_client_table.specs.NoRequestsLaws.{moves_request}
use Rattle.sshc_key.specs.declared.signer.Asker.TheVariants.{Session}
use Rattle.sshc_run_script.specs.SignedRequests.{CallsAreCounted, by_pair, pair_request, pair_request_by, pair_requests}
use Rattle.sshc_run_script.proofs.RunNames.{SignCall, Answer, Asking, Makes, MakesFirst, none_first, call_of, done, asks, Event, OpeningState, open_row, Next, Row, opens, stays, Accepts, SessionState, session_row, all_moves, default_opinions, EventError, event_of, Frame, ScriptStop, stop_of, taken, RunSettings, Hosts, TurnOf, stop_next, own_calls, own_events, own_answers, run_machine, Run, events_run, script_run, session_own, IsAgentCause, SessionTurn, session_turn, next_turn, row_turn, agents_turn}
use Rattle.sshc_run_script.proofs.OpeningTurns.{asked_by}
use Rattle.sshc_run_script.proofs.SessionTurns.{turn_by}
use Rattle.sshc_run_script.proofs.RunLaws.{run_law}
use Rattle.sshc_run_script.proofs.PartRuns.{parted}
use Rattle.sshc_run_script.proofs.SessionPart.{session_apart}
use Rattle.sshc_run_script.proofs.AgentsTurns.{agents_stop}

-- ---- the stored request

abbrev stored_pair : Option Method → ℕ
stored_pair None = 0
stored_pair (Some method) = by_pair method

signs_once : (k : Kept) (method : Option Method) (call : SignCall) → SignsStored method k call.key call.hash call.bytes → stored_pair method ≡ 1
signs_once k (Some (methods.PublicKey key)) call signs = refl
signs_once k (Some (methods.OpenSshCertificate key cert)) call signs = refl
signs_once k method call never = absurd never

stores_pair : (event : Event) (t : OpeningState) → Stores event t → stored_pair t.method ≡ pair_request event
stores_pair (events.Authenticate ticket user method) t stores = ap stored_pair stores.1
stores_pair event t never = absurd never

kept_pair : (s t : OpeningState) (event : Event) → KeepsRequest (kept_of s) event t → stored_pair t.method ≤ stored_pair s.method + pair_request event
kept_pair s t event (inl (user, inl method)) = let same : stored_pair t.method ≡ stored_pair s.method = ap stored_pair method in omega (arith, same)
kept_pair s t event (inl (user, inr none)) = let none_is : stored_pair t.method ≡ 0 = ap stored_pair none in omega (arith, none_is)
kept_pair s t event (inr stores) = let is = stores_pair event t stores in omega (arith, is)

-- ---- a row

-- a row that asks nothing, or one question for the stored request, which it settles
abbrev pub AskedOnce : Kept → Event → List SignCall → Row → Type 0
AskedOnce k event [] row = Keeps k event row
AskedOnce k event (call ∷ []) row = (call.by ≡ Session) × SignsStored k.method k call.key call.hash call.bytes × Keeps k event row × SettledNext row.next
AskedOnce k event (call ∷ other ∷ calls) row = ⊥

pub asked_once : (k : Kept) (event : Event) (asked : Asking Row) (calls : List SignCall) (row : Row) → KeepsAsking k event asked → Makes asked calls row → AskedOnce k event calls row
asked_once k event (done to) [] row keeps is = subst (Keeps k event) is keeps
asked_once k event (asks asked on) (call ∷ calls) row (by, signs, each) (is, makes) = then_done (on call.answer) calls (each call.answer) makes
  where
    then_done : (asking : Asking Row) (calls : List SignCall) → KeepsAsked k event asking → Makes asking calls row → AskedOnce k event (call ∷ calls) row
    then_done (done to) [] keeps same = (
      ap (λ (c : SignCall). c.by) is ∙ by,
      subst (λ (c : SignCall). SignsStored k.method k c.key c.hash c.bytes) (sym is) signs,
      subst (Keeps k event) same keeps.0,
      subst (λ (r : Row). SettledNext r.next) same keeps.1,
    )
    then_done (done to) (other ∷ calls) keeps never = absurd never
    then_done (asks asked on) calls never makes = absurd never
asked_once k event asked calls row keeps never = absurd never

-- ---- a turn

-- a turn's calls are no more than the request that was stored, and if the run continues they take its place
record Counted (was : Option Method) (asked n : ℕ) (goes : Type 0) (is : Option Method) : Type 0 where
  few : n ≤ stored_pair was
  on : goes → n + stored_pair is ≤ stored_pair was + asked

module _ (s : OpeningState) (event : Event) (place : ℕ) where
  abbrev CountedTurn : ℕ → TurnOf OpeningState → Type 0
  CountedTurn n t = Counted s.method (pair_request event) n (stop_next t.next ≡ None) t.state.method

  -- a request is kept or stored
  none_counted : (row : Row) (next : Next) → KeepsNext (kept_of s) event next →
      CountedTurn 0 (next_turn place s row next)
  none_counted row (stays t) keeps = let most =
      kept_pair s t event keeps.1 in record { few = omega arith; on = λ goes. omega (arith, most) }
  none_counted row (opens t) keeps = let most =
      kept_pair s t event keeps.1 in record { few = omega arith; on = λ goes. omega (arith, most) }
  none_counted row next keeps = record { few = omega arith; on = λ goes. absurd cc }

  -- a call takes the place of the request that was stored
  one_counted : (row : Row) (next : Next) → stored_pair s.method ≡ 1 → SettledNext next →
      CountedTurn 1 (next_turn place s row next)
  one_counted row (stays t) one settled =
      record { few = omega (arith, one); on = λ goes. omega (arith, one, ap stored_pair settled) }
  one_counted row (opens t) one settled =
      record { few = omega (arith, one); on = λ goes. omega (arith, one, ap stored_pair settled) }
  one_counted row next one settled = record { few = omega (arith, one); on = λ goes. absurd cc }

  row_counted : (calls : List SignCall) (row : Row) → AskedOnce (kept_of s) event calls row →
      CountedTurn (length calls) (row_turn place s row)
  row_counted [] row made = none_counted row row.next made.1
  row_counted (call ∷ []) row (who, signs, made, settled) =
      one_counted row row.next (signs_once (kept_of s) s.method call signs) settled
  row_counted (call ∷ other ∷ calls) row never = absurd never

-- ---- a turn of the session

abbrev CountedStep : SessionState → Result Event EventError → ℕ → SessionTurn → Type 0
CountedStep s read n t = Counted s.opening.method (pair_request_by read) n (stop_next t.next ≡ None) t.state.opening.method

turn_counted : (hosts : Hosts) (accepts : Accepts) (s : SessionState) (frame : Frame) (calls : List SignCall) (t : SessionTurn) → Makes (session_turn hosts accepts s frame) calls t → CountedStep s (event_of frame.kind frame.fields) (length calls) t
turn_counted hosts accepts s frame =
    turn_by hosts accepts s frame (λ read calls t. CountedStep s read (length calls) t)
    (λ event on.
    let same = ap stored_pair (moves_request (all_moves (session_row accepts (default_opinions s) s event)) s).method in
    record { few = omega arith; on = λ goes. omega (arith, same) })
    (λ event calls t un makes.
    let counted = asked_by hosts frame.place s.opening event
    (λ calls t. CountedTurn s.opening event frame.place (length calls) t)
    (λ told calls row made.
    row_counted s.opening event frame.place calls row
    (asked_once (kept_of s.opening) event (open_row s.opening event told) calls row
    (open_keeps s.opening event told) made))
    (λ e. record { few = omega arith; on = λ goes. absurd cc }) calls t makes
    in
    record { few = counted.few; on = counted.on })
    (λ e. record { few = omega arith; on = λ goes. absurd cc })

-- ---- the run

-- first calls are the first of all that are made, by some answers
completes : {A : Type 0} (asking : Asking A) (gained : List SignCall) → MakesFirst asking gained →
    (more : List SignCall) × ((x : A) × Makes asking (gained ++ more) x)
completes (done x) [] first = ([], (x, refl))
completes (done x) (call ∷ gained) never = absurd never
completes (asks asked on) [] first =
    let rest = completes (on None) [] (none_first (on None)) in
    (call_of asked None ∷ rest.0, (rest.1.0, (refl, rest.1.1)))
completes (asks asked on) (call ∷ gained) (is, first) =
    let rest = completes (on call.answer) gained first in (rest.0, (rest.1.0, (is, rest.1.1)))

-- a run of the session alone
at_most : (hosts : Hosts) (accepts : Accepts) (st : ScriptStop) (frames : List Frame) (s : SessionState) (answers : List Answer) →
    length (events_run (session_turn hosts accepts) s frames st answers).calls ≤ stored_pair s.opening.method + pair_requests frames
at_most hosts accepts st =
    run_law (session_turn hosts accepts) st (λ s frames answers r. length r.calls ≤ stored_pair s.opening.method + pair_requests frames) (λ s answers. omega arith)
    (λ s frame frames gained first.
    let (more, (t, makes)) = completes (session_turn hosts accepts s frame) gained first in
    let counted = turn_counted hosts accepts s frame (gained ++ more) t makes in
    omega (arith, counted.few, length-append gained more))
    (λ s frame frames gained left t stop makes is. let counted = turn_counted hosts accepts s frame gained t makes in omega (arith, counted.few, length-append gained []))
    (λ s frame frames gained left t r makes on later. let counted = turn_counted hosts accepts s frame gained t makes in omega (arith, counted.on on, later, length-append gained r.calls))

-- a run asks the signer as the session at most once for each request by a key of which the pair is available
pub calls_counted : (hosts : Hosts) (accepts : Accepts) (settings : RunSettings) (max : ℕ) (answers : List Answer) (script : Option (List ℕ)) →
    CallsAreCounted max (script_run (run_machine hosts accepts settings) max answers) script
calls_counted hosts accepts settings max answers script = λ bytes is.
    let r : Run = script_run (run_machine hosts accepts settings) max answers bytes in
    let own : List SignCall = own_calls session_own r.calls in
    let part = parted session_own (session_turn hosts accepts) agents_turn (session_apart hosts accepts) IsAgentCause (λ s frame is. agents_stop s frame) (stop_of max bytes) (taken max bytes) (run_machine hosts accepts settings).first answers in
    let front = (part.first []).1 in
    let few = at_most hosts accepts (stop_of max bytes) (own_events session_own (taken max bytes)) (run_machine hosts accepts settings).first.one (own_answers session_own r.calls ++ []) in
    omega (arith, few, ap length front.1, length-append own front.0)
