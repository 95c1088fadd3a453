-- Along a run the session signs what it was asked for: what each step guarantees, joined over the events.
use Rattle.std.proofs.Common.{◌≡◌, ◌≢◌, ◌⊎◌, inl, inr, ℕ, Bool, true, false, List, [], ◌∷◌, Option, Some, None, Result, Ok, refl, ap, sym, ◌∙◌, subst}
use Rattle.std.specs.Prelude.{if◌then◌else◌}
use Rattle.std.specs.List.{AllByRecursion}
use Rattle.sshc_wire.specs.declared.auth_record.AuthRecord.TheVariants.{SignRequest, SignRequestCert}
use Rattle.sshc_wire.specs.declared.record.Record.TheVariants as records
use Rattle.sshc_auth_event.specs.declared.event.Event.TheVariants as events
use Rattle.sshc_transport.specs.declared.exchange.ExchangeKey.{ExchangeKey}
use Rattle.sshc_transport.specs.declared.exchange.ExchangeResult.{ExchangeResult}
use Rattle.sshc_auth.specs.declared.opening.Phase.{Phase}
use Rattle.sshc_auth.specs.declared.opening.Phase.TheVariants as phases
use Rattle.sshc_auth.specs.declared.step.Told.{Told}
use Rattle.sshc_auth.specs.declared.step.Told.TheVariants as telling
use Rattle.sshc_auth.specs.GateLaws.{FirstNext, IsNoExchange, StaysFirst, first_law}
use Rattle.sshc_auth.specs.KeepLaws.{HandsAll, HandsBytes, Keeps, KeepsNext, KeepsState, open_keeps}
use Rattle.sshc_auth.specs.OneKeyLaws.{HasKeyNext, HasKeyRow, later_row}
use Rattle.sshc_auth.specs.OpeningState.{is_awaiting}
use Rattle.sshc_auth.specs.OpeningTable.{plain_row, turn_row}
use Rattle.sshc_auth.specs.OpeningTable.Exchange.{accepted_row, exchange_done_row, exchange_row_in}
use Rattle.sshc_auth.specs.OpeningTable.Order.{is_out_of_turn}
use Rattle.sshc_auth.specs.SessionWords.{AsksOnce, HandsStored, IsFirst, Kept, kept_of}
use Rattle.sshc_auth.specs.SignedRuns.{IsAskedFor, IsHandedFor, IsSignedFor}
use Rattle.sshc_auth.specs.SignedRunLaws.{asked_next, calls_for, handed_for}
use Rattle.sshc_client_table.specs.SessionRow.{Next as RowNext, goes as row_continues, ends as row_ends, refuses as row_refuses}
use Rattle.sshc_client_table.specs.OneKeyLaws.{session_has}
use Rattle.sshc_client_state.specs.Start.{new_session}
use Rattle.sshc_client_table.specs.NoRequests.{IsSameRequest}
use Rattle.sshc_client_table.specs.NoRequestsLaws.{moves_request}
use Rattle.sshc_run_script.specs.Path.{StepOf, step_of}
use Rattle.sshc_run_script.specs.SignedRequests.{AreSigned, AreSignedSteps, HasHostKey, with_event, first_exchange, or_exchange}
use Rattle.sshc_run_script.proofs.RunNames.{Record, SignCall, Answer, Asking, Always, Makes, always_makes, always_also, Event, OpeningState, shut, asked_of, open_row, Next, Row, opens, stays, Accepts, SessionState, is_open, session_row, all_moves, default_opinions, EventError, event_of, Frame, RunSettings, Hosts, Onward, TurnOf, stop_next, SessionTurn, onward, session_turn, asked_turn, next_turn}
use Rattle.sshc_run_script.proofs.RunSteps.{session_along}
use Rattle.sshc_run_script.proofs.OpeningTurns.{asked_by}
use Rattle.sshc_run_script.proofs.SessionTurns.{turn_by}
use Rattle.sshc_run_script.proofs.RunCalls.{asked_once, AskedOnce}

-- ---- what is true of a state, with the events before it

-- behind the first exchange its hash is the session id, and each exchange that was done has the session's host key
record Settled (past : List Event) (o : OpeningState) : Type 0 where
  later : o.phase ≢ phases.Exchanging
  session : first_exchange past ≡ Some (o.session_id, o.host_key)
  keys : AllByRecursion (HasHostKey o.host_key) past

-- while the first exchange runs, no exchange was done
abbrev Begun : List Event → OpeningState → Type 0
Begun past o = (IsFirst o × (first_exchange past ≡ None)) ⊎ Settled past o

record SignedSo (past : List Event) (o : OpeningState) : Type 0 where
  begun : Begun past o
  asked : IsAskedFor past o.user o.method

-- an event with the session's host key, after which the id and the host key are the same
settled_on : (past : List Event) (event : Event) (old new : OpeningState) → Settled past old →
    HasHostKey old.host_key event →
    new.phase ≢ phases.Exchanging →
    ◌≡◌ {A = List ℕ × ExchangeKey} (new.session_id, new.host_key) (old.session_id, old.host_key) →
    Settled (event ∷ past) new
settled_on past event old new set has later same = record {
  later = later;
  session = ap (λ (h : Option (List ℕ × ExchangeKey)). or_exchange h event) set.session ∙ ap (λ (h : List ℕ × ExchangeKey). Some h) (sym same);
  keys = subst (λ (key : ExchangeKey). AllByRecursion (HasHostKey key) (event ∷ past)) (sym (ap (λ (p : List ℕ × ExchangeKey). p.1) same)) (has, set.keys);
}

-- ---- a row

-- bytes that are handed out are the stored request's
stored_bytes : (k : Kept) (next : Next) (output : Record) (later : List Record) → HandsBytes k next output later → HandsStored k output
stored_bytes k next (records.Auth ticket (SignRequest blob hash bytes)) later hands = hands.0
stored_bytes k next (records.Auth ticket (SignRequestCert blob hash bytes)) later hands = hands.0
stored_bytes k next output later hands = tt

stored_all : (k : Kept) (next : Next) (output : List Record) → HandsAll k next output → AllByRecursion (HandsStored k) output
stored_all k next [] hands = tt
stored_all k next (one ∷ output) hands = (stored_bytes k next one output hands.0, stored_all k next output hands.1)

-- the row keeps what it must, and a call that it makes is of the stored request
keeps_of : (k : Kept) (event : Event) (calls : List SignCall) (row : Row) → AskedOnce k event calls row → Keeps k event row
keeps_of k event [] row made = made
keeps_of k event (call ∷ []) row (by, signs, keeps, settled) = keeps
keeps_of k event (call ∷ other ∷ calls) row never = absurd never

once_of : (k : Kept) (event : Event) (calls : List SignCall) (row : Row) (t : OpeningState) → t.closed ≡ true → AskedOnce k event calls row → AsksOnce k t calls
once_of k event [] row t over made = tt
once_of k event (call ∷ []) row t over (by, signs, keeps, settled) = (by, signs, inr over)
once_of k event (call ∷ other ∷ calls) row t over never = absurd never

-- ---- the first exchange

-- the session has the exchange's hash as its id, and its host key
abbrev IsTaken : ExchangeResult → OpeningState → Type 0
IsTaken x t = ◌≡◌ {A = List ℕ × ExchangeKey} (t.session_id, t.host_key) (x.session_hash, x.key)

-- how a state is entered while the first exchange runs: by its accepted end, with its hash as the session id and its
-- host key; or the exchange still runs
abbrev Enters : Event → OpeningState → Type 0
Enters (events.ExchangeDone x) t = IsTaken x t × (t.phase ≢ phases.Exchanging)
Enters event t = IsFirst t × IsNoExchange event

abbrev EntersNext : Event → Next → Type 0
EntersNext event (stays t) = Enters event t
EntersNext event (opens t) = Enters event t × (t.phase ≢ phases.Exchanging)
EntersNext event next = Unit {0}

abbrev EntersRow : Event → Row → Type 0
EntersRow event row = EntersNext event row.next

cond_enters : (event : Event) (b : Bool) (one other : Asking Row) → Always (EntersRow event) one → Always (EntersRow event) other → Always (EntersRow event) (if b then one else other)
cond_enters event true one other a b = a
cond_enters event false one other a b = b

accepted_enters : (s : OpeningState) (x : ExchangeResult) (anonymous : Bool) → EntersRow (events.ExchangeDone x) (accepted_row anonymous s x)
accepted_enters s x false = (refl, λ same. absurd cc)
accepted_enters s x true = ((refl, λ same. absurd cc), λ same. absurd cc)

exchange_enters : (s : OpeningState) (x : ExchangeResult) (told : Told) (phase : Phase) → phase ≡ phases.Exchanging → EntersRow (events.ExchangeDone x) (exchange_row_in phase s x told)
exchange_enters s x telling.Went phases.Exchanging is = accepted_enters s x s.settings.anonymous
exchange_enters s x told phases.Exchanging is = tt
exchange_enters s x told phase is = absurd cc

turn_enters : (s : OpeningState) (x : ExchangeResult) (told : Told) (awaits : Bool) → is_awaiting s.phase ≡ awaits → s.phase ≡ phases.Exchanging → Always (EntersRow (events.ExchangeDone x)) (turn_row awaits s (events.ExchangeDone x) told)
unfolding plain_row exchange_done_row
turn_enters s x told true is first = let clash : is_awaiting phases.Exchanging ≡ true = rw first at is in absurd cc
turn_enters s x told false is first = exchange_enters s x told s.phase first

-- an event that is no exchange
no_exchange : (event : Event) → IsNoExchange event → or_exchange None event ≡ None
no_exchange (events.ExchangeDone x) never = absurd never
no_exchange event none = refl

first_enters : (event : Event) (next : Next) → FirstNext event next → EntersNext event next
first_enters (events.ExchangeDone x) (stays t) on = absurd on.1
first_enters event (stays t) on = on
first_enters event (opens t) on = absurd on
first_enters event next on = tt

row_enters : (s : OpeningState) (event : Event) (told : Told) → IsFirst s → Always (EntersRow event) (open_row s event told)
unfolding open_row
row_enters s (events.ExchangeDone x) told first =
    cond_enters (events.ExchangeDone x) (is_out_of_turn s (events.ExchangeDone x)) _ _ tt (turn_enters s x told (is_awaiting s.phase) refl first.exchanging)
row_enters s event told first =
    always_also (StaysFirst event) (EntersRow event) (open_row s event told) (λ row stays. first_enters event row.next stays.1) (first_law s event told first (λ never. never))

-- no exchange was done until the first
not_done : (event : Event) (key : ExchangeKey) → or_exchange None event ≡ None → HasHostKey key event
not_done (events.ExchangeDone x) key none = absurd cc
not_done event key none = tt

none_before : (before : Option (List ℕ × ExchangeKey)) (event : Event) (key : ExchangeKey) → or_exchange before event ≡ None → (before ≡ None) × HasHostKey key event
none_before (Some first) event key none = absurd cc
none_before None event key none = (refl, not_done event key none)

none_done : (past : List Event) (key : ExchangeKey) → first_exchange past ≡ None → AllByRecursion (HasHostKey key) past
none_done [] key none = tt
none_done (event ∷ past) key none = let one = none_before (first_exchange past) event key none in (one.1, none_done past key one.0)

-- a state that is entered so
entered : (past : List Event) (event : Event) (t : OpeningState) → first_exchange past ≡ None → Enters event t →
    Begun (event ∷ past) t
entered past (events.ExchangeDone x) t none (taken, later) = inr (record {
  later = later;
  session = rw none (ap (λ (h : List ℕ × ExchangeKey). Some h) (sym taken));
  keys = (sym (ap (λ (p : List ℕ × ExchangeKey). p.1) taken), none_done past t.host_key none);
})
entered past event t none (first, same) = inl (first, rw none (no_exchange event same))

-- the session isn't over after a row
abbrev Leads : Next → Type 0
Leads (stays t) = Unit {0}
Leads (opens t) = Unit {0}
Leads next = ⊥

-- behind the first exchange, an exchange that is done has the session's host key
key_of : (s : OpeningState) (x : ExchangeResult) (next : Next) → HasKeyNext s x next → Leads next → x.key ≡ s.host_key
key_of s x (stays t) has leads = has.0
key_of s x (opens t) has leads = has.0
key_of s x next has never = absurd never

later_has : (s : OpeningState) (event : Event) (told : Told) (calls : List SignCall) (row : Row) → s.phase ≢ phases.Exchanging → Makes (open_row s event told) calls row → Leads row.next → HasHostKey s.host_key event
later_has s (events.ExchangeDone x) told calls row later makes leads =
    key_of s x row.next (always_makes (HasKeyRow s x) (open_row s (events.ExchangeDone x) told) calls row (later_row s x told later) makes) leads
later_has s event told calls row later makes leads = tt

-- ---- a turn of the opening

-- a turn's calls and records, and the state from which it continues
record StepSo (past : List Event) (read : Result Event EventError) (s : OpeningState) (calls : List SignCall)
    (output : List Record) (next : Onward) (to : OpeningState) : Type 0 where
  goes : stop_next next ≡ None → SignedSo (with_event read past) to
  asked : AllByRecursion (IsSignedFor s.session_id past) calls
  handed : is_open s.phase ≡ false → AllByRecursion (IsHandedFor s.session_id past) output

module _ (past : List Event) (s : OpeningState) (event : Event) (so : SignedSo past s) where
  next_state : (t : OpeningState) → (IsFirst s → Enters event t) →
      (s.phase ≢ phases.Exchanging → HasHostKey s.host_key event) →
      KeepsState (kept_of s) event t → SignedSo (event ∷ past) t
  next_state t enters has keeps = record {
    begun = elim so.begun [
      | inl early ↦ entered past event t early.1 (enters early.0)
      | inr set ↦ inr (settled_on past event s t set (has set.later) (keeps.0 set.later).1 (keeps.0 set.later).0)
    ];
    asked = asked_next s event past t so.asked keeps.1;
  }

  shut_so : (t : OpeningState) → t.phase ≢ phases.Exchanging → SignedSo (event ∷ past) t → SignedSo (event ∷ past) (shut t)
  shut_so t later signed = record {
    begun = elim signed.begun [
      | inl early ↦ absurd (later early.0.exchanging)
      | inr set ↦ inr (record { later = later; session = set.session; keys = set.keys })
    ];
    asked = signed.asked;
  }

  abbrev Handed : List Record → Type 0
  Handed output = AllByRecursion (IsHandedFor s.session_id past) output

  by_next : (place : ℕ) (row : Row) (next : Next) → (IsFirst s → EntersNext event next) →
      (s.phase ≢ phases.Exchanging → Leads next → HasHostKey s.host_key event) → KeepsNext (kept_of s) event next →
      Handed row.records →
      (stop_next (next_turn place s row next).next ≡ None → SignedSo (event ∷ past) (next_turn place s row next).state)
      × Handed (next_turn place s row next).records
  by_next place row (stays t) enters has keeps handed =
      ((λ goes. next_state t enters (λ later. has later tt) keeps), handed)
  by_next place row (opens t) enters has keeps handed =
      let away : t.phase ≢ phases.Exchanging =
      elim so.begun [ inl early ↦ (enters early.0).1 | inr set ↦ (keeps.0 set.later).1 ] in
      ((λ goes. shut_so t away (next_state t (λ first. (enters first).0) (λ later. has later tt) keeps)), handed)
  by_next place row next enters has keeps handed = ((λ goes. absurd cc), handed)

  asked_so : (hosts : Hosts) (place : ℕ) (calls : List SignCall) (t : TurnOf OpeningState) → Makes (asked_turn hosts place s event (asked_of s event)) calls t →
      StepSo past (Ok event) s calls t.records t.next t.state
  asked_so hosts place =
      asked_by hosts place s event (λ calls t. StepSo past (Ok event) s calls t.records t.next t.state)
      (λ told calls row makes.
      let made = asked_once (kept_of s) event (open_row s event told) calls row (open_keeps s event told) makes in
      let keeps = keeps_of (kept_of s) event calls row made in
      let turn =
      by_next place row row.next (λ first. always_makes (EntersRow event) (open_row s event told) calls row (row_enters s event told first) makes)
      (λ later leads. later_has s event told calls row later makes leads) keeps.1
      (handed_for s.session_id past (kept_of s) row.records refl so.asked (stored_all (kept_of s) row.next row.records keeps.0))
      in
      record {
        goes = turn.0;
        asked = calls_for s.session_id past (kept_of s) (shut s) calls refl so.asked (once_of (kept_of s) event calls row (shut s) refl made);
        handed = λ unopened. turn.1;
      })
      (λ e. record { goes = λ goes. absurd cc; asked = tt; handed = λ unopened. tt })

-- ---- a turn of the session

-- moves of an open session don't change it
moved_so : (past : List Event) (event : Event) (old new : OpeningState) → old.phase ≢ phases.Exchanging →
    HasHostKey old.host_key event →
    SignedSo past old → IsSameRequest old new → SignedSo (event ∷ past) new
moved_so past event old new later has so same = record {
  begun = elim so.begun [
    | inl early ↦ absurd (later early.0.exchanging)
    | inr set ↦ inr (settled_on past event old new set has (λ first. later (sym same.phase ∙ first))
        (rw (same.session_id, same.host_key) refl))
  ];
  asked = asked_next old event past new so.asked (inl (same.user, inl same.method));
}

-- an open session goes on behind an exchange only with its host key
row_goes : (place : ℕ) (next : RowNext) → stop_next (onward place next) ≡ None → next ≡ row_continues
row_goes place row_continues on = refl
row_goes place (row_ends e) on = absurd cc
row_goes place (row_refuses e) on = absurd cc

open_has : (hosts : Hosts) (accepts : Accepts) (place : ℕ) (s : SessionState) (event : Event) → stop_next (onward place (session_row accepts (default_opinions s) s event).next) ≡ None → HasHostKey s.opening.host_key event
open_has hosts accepts place s (events.ExchangeDone x) on =
    let row = session_row accepts (default_opinions s) s (events.ExchangeDone x) in
    (session_has accepts (default_opinions s) s x (row_goes place row.next on)).0
open_has hosts accepts place s event on = tt

turn_so : (hosts : Hosts) (accepts : Accepts) (past : List Event) (s : SessionState) (frame : Frame)
    (calls : List SignCall) (t : SessionTurn) → SignedSo past s.opening →
    Makes (session_turn hosts accepts s frame) calls t →
    StepSo past (event_of frame.kind frame.fields) s.opening calls t.records t.next t.state.opening
turn_so hosts accepts past s frame calls t so =
    turn_by hosts accepts s frame (λ read calls t. StepSo past read s.opening calls t.records t.next t.state.opening)
    (λ event on. record {
      goes = λ goes.
          moved_so past event s.opening _
          (λ first. let clash : is_open phases.Exchanging ≡ true = rw first at on in absurd cc)
          (open_has hosts accepts frame.place s event goes) so
          (moves_request (all_moves (session_row accepts (default_opinions s) s event)) s);
      asked = tt;
      handed = λ unopened. let clash : true ≡ false = sym on ∙ unopened in absurd cc;
    })
    (λ event calls t un. asked_so past s.opening event so hosts frame.place calls t)
    (λ e. record { goes = λ goes. absurd cc; asked = tt; handed = λ unopened. tt }) calls t

-- ---- the run

steps_signed : (hosts : Hosts) (accepts : Accepts) (past : List Event) (s : SessionState) (frame : Frame) (gained : List SignCall) (t : SessionTurn) (steps : List (StepOf SessionState)) → SignedSo past s.opening →
    Makes (session_turn hosts accepts s frame) gained t → (steps ≡ []) ⊎ (stop_next t.next ≡ None) → ((past : List Event) → SignedSo past t.state.opening → AreSignedSteps past steps) → AreSignedSteps past (step_of s frame gained t ∷ steps)
steps_signed hosts accepts past s frame gained t steps so makes on later =
    let here = turn_so hosts accepts past s frame gained t so makes in
    let settled : s.opening.phase ≢ phases.Exchanging → Settled past s.opening = λ away. elim so.begun [
      | inl early ↦ absurd (away early.0.exchanging)
      | inr set ↦ set
    ] in (
      record {
        session = λ away. (settled away).session;
        key = λ away. (settled away).keys;
        asked = here.asked;
        handed = here.handed;
      },
      elim on [ inl last ↦ rw last tt | inr goes ↦ later _ (here.goes goes) ],
    )

-- along a run the session signs what it was asked for
pub signed_along : (hosts : Hosts) (accepts : Accepts) (settings : RunSettings) (max : ℕ) (answers : List Answer) (script : Option (List ℕ)) → AreSigned hosts accepts settings max answers script
signed_along hosts accepts settings max answers script = λ bytes output steps s path.
    let fresh : IsFirst (new_session settings.session settings.opening).opening =
    record { exchanging = refl; runs = λ idle. absurd cc; fresh = refl } in
    session_along hosts accepts (λ s steps s'. (past : List Event) → SignedSo past s.opening → AreSignedSteps past steps) (λ s past so. tt)
    (λ s frame gained t steps s' between makes on later past so.
    steps_signed hosts accepts past s frame gained t steps so makes on later)
    settings max answers script bytes output steps s path [] (record { begun = inl (fresh, refl); asked = tt })
