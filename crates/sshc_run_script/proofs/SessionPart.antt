-- The session beside the agent: it takes each session event, and its records and calls are its own; an agent takes the
-- others. The session begins as the opening.
use Rattle.std.proofs.Common.{true, ap, ◌≡◌, Bool, false, List, [], ◌∷◌, Result, Ok, Err, refl, sym, ◌∙◌, subst}
use Rattle.sshc_auth.specs.AskerLaws.{AsksAsSession, asks_as_session}
use Rattle.sshc_client_table.specs.declared.open_answer.OpenAnswer.TheVariants.{Accept}
use Rattle.sshc_client_table.specs.KeptByMovesLaws.{said_session}
use Rattle.sshc_client_table.specs.OpenCauseLaws.{RowHolds, all_keep, open_why, session_holds}
use Rattle.sshc_client_table.specs.SessionRecords.{AreSessions, is_session_record}
use Rattle.sshc_client_state.specs.Start.{new_session}
use Rattle.sshc_run_reader.specs.declared.error.EventError.TheVariants as reads
use Rattle.sshc_run_agent.specs.TurnLaws.{on_made}
use Rattle.sshc_run_agent.specs.AgentTurns.{Served}
use Rattle.sshc_run_script.specs.Product.{Apart, in_one, in_other}
use Rattle.sshc_run_script.proofs.RunNames.{Asking, done, asks, asked_on, open_row, asked_of, Accepts, SessionState, Frame, Hosts, AsksBy, is_session_asker, in_session, session_turn, row_turn, asked_turn, Record, Always, Makes, always_also, always_on, Event, OpeningState, SessionRow, is_open, all_moves, default_opinions, EventError, event_of, SignCall, agents_turn, RunSettings, goes_on, Onward, TurnOf, SaysBy, RunState, run_turn, session_own, SessionTurn, said_by, read_turn, Turn, event_turn, opening_turn}
use Rattle.sshc_run_script.proofs.Products.{asks_on as asks_mapped, both_case}
use Rattle.sshc_run_script.proofs.OpeningTurns.{event_case}
use Rattle.sshc_run_script.proofs.SessionTurns.{turn_case, default_row}
use Rattle.sshc_run_script.proofs.AgentsTurns.{agents_ask, agents_say}
use Rattle.sshc_run_script.proofs.ReadyTurns.{Leaves, TurnLeaves, asked_leaves, opening_leaves}

-- ---- whatever it asks the signer, it asks as the session

asks_on : {A : Type 0} {B : Type 0} (f : A → B) (asking : Asking A) → AsksAsSession asking → AsksBy is_session_asker true (asked_on f asking)
asks_on f (done x) so = tt
asks_on f (asks asked on) so = (ap is_session_asker so.0, λ answer. asks_on f (on answer) (so.1 answer))

-- every turn of the session
pub session_asks : (hosts : Hosts) (accepts : Accepts) (s : SessionState) (frame : Frame) → AsksBy is_session_asker true (session_turn hosts accepts s frame)
session_asks hosts accepts s frame =
    turn_case hosts accepts s frame (λ read asking. AsksBy is_session_asker true asking) (λ event on. tt)
    (λ event un.
    asks_mapped is_session_asker true (in_session s) (asked_turn hosts frame.place s.opening event (asked_of s.opening event))
    (event_case hosts frame.place s.opening event (λ asking. AsksBy is_session_asker true asking)
    (λ told was. asks_on (row_turn frame.place s.opening) (open_row s.opening event told) (asks_as_session s.opening event told)) (λ key e asked is. tt)))
    (λ e. tt)

-- ---- the session's records are its own

says_own : (records : List Record) → AreSessions records → SaysBy is_session_record true records
says_own [] so = tt
says_own (output ∷ records) (here, so) = (here, says_own records so)

module _ (hosts : Hosts) (accepts : Accepts) where
  abbrev SaysOwn : SessionTurn → Type 0
  SaysOwn t = SaysBy is_session_record true t.records

  -- every turn of the session
  pub session_says : (s : SessionState) (frame : Frame) → Always SaysOwn (session_turn hosts accepts s frame)
  session_says s frame =
      turn_case hosts accepts s frame (λ read. Always SaysOwn)
      (λ event on.
      let row : SessionRow = default_row accepts s event in
      let holds : RowHolds (open_why s event) row = session_holds accepts (default_opinions s) s event on in
      says_own (said_by (all_moves row) s) (said_session (all_moves row) s (all_keep s event row Accept holds)))
      (λ event un.
      always_on (TurnLeaves s.opening.closed) SaysOwn (in_session s) (asked_turn hosts frame.place s.opening event (asked_of s.opening event)) (λ t so. says_own t.records so.1)
      (asked_leaves hosts frame.place s.opening event un))
      (λ e. tt)

  -- ---- the run's turns

  -- the records and calls of the session and of the agent are each their own
  pub session_apart : Apart session_own (session_turn hosts accepts) agents_turn
  session_apart = record {
    one_says = λ s frame is. session_says s frame;
    one_asks = λ s frame is. session_asks hosts accepts s frame;
    other_says = λ s frame is. agents_say s frame;
    other_asks = λ s frame is. agents_ask s frame;
  }

  -- a run's turn by the calls of the signer and the turn that they make: of the session, or of the agent
  pub run_by : (s : RunState) (frame : Frame) (Q : List SignCall → TurnOf RunState → Type 0) →
      (session_own.event frame ≡ true → (gained : List SignCall) (t : SessionTurn) → Makes (session_turn hosts accepts s.one frame) gained t → Q gained (in_one s t)) →
      (session_own.event frame ≡ false → (gained : List SignCall) (t : TurnOf Served) → Makes (agents_turn s.other frame) gained t → Q gained (in_other s t)) →
      (gained : List SignCall) (t : TurnOf RunState) → Makes (run_turn hosts accepts s frame) gained t → Q gained t
  run_by s frame Q one other =
      both_case session_own (session_turn hosts accepts) agents_turn session_apart (λ asking. (gained : List SignCall) (t : TurnOf RunState) → Makes asking gained t → Q gained t) s frame
      (λ is gained t makes. let turn = on_made (in_one s) (session_turn hosts accepts s.one frame) gained t makes in subst (Q gained) turn.2 (one is gained turn.0 turn.1))
      (λ is gained t makes. let turn = on_made (in_other s) (agents_turn s.other frame) gained t makes in subst (Q gained) turn.2 (other is gained turn.0 turn.1))

-- ---- the session begins as the opening

-- what the session keeps until it is open
abbrev pub kept_in : RunSettings → OpeningState → SessionState
kept_in settings o = record (new_session settings.session settings.opening) { opening = o }

-- the opening isn't closed, and the session isn't open
abbrev pub IsUnopened : OpeningState → Type 0
IsUnopened o = (o.closed ≡ false) × (is_open o.phase ≡ false)

-- before the session is open the session's turn is the opening's
pub same_turn : (hosts : Hosts) (accepts : Accepts) (settings : RunSettings) (o : OpeningState) (frame : Frame) → is_open o.phase ≡ false →
    session_turn hosts accepts (kept_in settings o) frame ≡ asked_on (in_session (kept_in settings o)) (opening_turn hosts o frame)
unfolding session_turn opening_turn
same_turn hosts accepts settings o frame is = by (event_of frame.kind frame.fields)
  where
    by : (read : Result Event EventError) → read_turn hosts accepts frame.place (kept_in settings o) read ≡ asked_on (in_session (kept_in settings o)) (event_turn hosts frame.place o read)
    by (Ok event) = rw is refl
    by (Err reads.Bad) = refl
    by (Err reads.NoMemory) = refl

leaves_unopened : (closed : Bool) (t : Turn) (next : Onward) → t.next ≡ next → closed ≡ false → Leaves closed next t.state → t.next ≡ goes_on → IsUnopened t.state
leaves_unopened closed t goes_on is fresh so goes = (so.0 ∙ fresh, so.1)
leaves_unopened closed t next is fresh so goes = let clash : next ≡ goes_on = sym is ∙ goes in absurd cc

-- after a turn of the opening that continues it is still so
pub stays_unopened : (hosts : Hosts) (o : OpeningState) (frame : Frame) → IsUnopened o → Always (λ (t : Turn). t.next ≡ goes_on → IsUnopened t.state) (opening_turn hosts o frame)
stays_unopened hosts o frame un =
    always_also (TurnLeaves o.closed) (λ (t : Turn). t.next ≡ goes_on → IsUnopened t.state) (opening_turn hosts o frame) (λ t so. leaves_unopened o.closed t t.next refl un.0 so.0) (opening_leaves hosts o frame un.1)
