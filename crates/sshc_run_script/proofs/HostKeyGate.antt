-- No payload before an accepted exchange.
use Rattle.std.proofs.Common.{◌≡◌, Bool, true, false, List, [], ◌∷◌, ◌++◌, Option, Some, Result, Ok, refl, ap, sym, ◌∙◌, subst, None, true≢false, inl, inr}
use Rattle.sshc_wire.specs.declared.record.Record.TheVariants.{Payload}
use Rattle.sshc_client_table.specs.SessionRecords.{is_session_record}
use Rattle.sshc_key.specs.declared.identity.PublicKeyOrCertificate.{PublicKeyOrCertificate}
use Rattle.sshc_auth_event.specs.HostKey.{host_key}
use Rattle.sshc_auth_event.specs.declared.event.Event.TheVariants as events
use Rattle.sshc_transport.specs.declared.exchange.ExchangeResult.{ExchangeResult}
use Rattle.sshc_auth.specs.declared.opening.Phase.TheVariants as phases
use Rattle.sshc_auth.specs.AskedLaws.{asks_for, first_at_most}
use Rattle.sshc_auth.specs.SessionWords.{IsFirst}
use Rattle.sshc_auth.specs.GateLaws.{NonePayload, IsAccepted, IsNoExchange, FirstNext, StaysFirst, first_law}
use Rattle.sshc_auth.specs.declared.step.Told.{Told}
use Rattle.sshc_auth.specs.declared.step.Told.TheVariants as telling
use Rattle.sshc_run_reader.specs.declared.event_kind.EventKind.{EventKind}
use Rattle.sshc_run_reader.specs.declared.event_kind.EventKind.TheVariants as kinds
use Rattle.sshc_run_reader.specs.EventFields.{kind_of}
use Rattle.sshc_run_reader.specs.KindLaws.{ReadAs, read_as}
use Rattle.sshc_run_agent.specs.AgentTurns.{Served}
use Rattle.sshc_run_script.specs.Headline.{said_of_key, said_at, said_of_first, is_yes, is_accepted}
use Rattle.sshc_run_script.specs.OpenedKey.{OpensIt}
use Rattle.sshc_run_script.specs.OpeningRun.{OpeningRun, OpeningStop, by_turn, opening, stops_with}
use Rattle.sshc_run_script.specs.SessionPart.{is_session_kind}
use Rattle.sshc_run_script.proofs.RunNames.{Record, Answer, Asking, asked_on, Always, done, Makes, always_on, always_makes, Event, OpeningState, open_row, asked_of, Row, Next, stays, opens, Accepts, SessionState, is_open, event_of, Frame, ScriptStop, SignCall, HandlerError, Hosts, Onward, goes_on, opened, stopped, unanswered_stop, stop_next, TurnOf, events_run, own_events, SaysBy, RunState, run_turn, session_own, SessionTurn, session_turn, Turn, next_turn, row_turn, asked_turn, opening_turn, agents_turn}
use Rattle.sshc_run_script.proofs.OpeningTurns.{event_case, WasTold, opening_case}
use Rattle.sshc_run_script.proofs.RunLaws.{run_law, asked_law}
use Rattle.sshc_run_script.proofs.SessionTurns.{turn_by}
use Rattle.sshc_run_script.proofs.PartRuns.{own_first, other_first}
use Rattle.sshc_run_script.proofs.SessionPart.{run_by}
use Rattle.sshc_run_script.proofs.AgentsTurns.{agents_say}

none_append : (a b : List Record) → NonePayload a → NonePayload b → NonePayload (a ++ b)
none_append [] b p q = q
none_append (output ∷ a) b p q = (p.0, none_append a b p.1 q)

-- before the first exchange, if none of the events holds one whose host key is accepted first
abbrev pub IsEarly : Hosts → List Frame → OpeningState → Type 0
IsEarly hosts frames to = IsFirst to × (is_accepted hosts frames ≡ false)

-- no payload is written, and if the run continues, the session isn't opened, and this is true of its state
abbrev StaysOut : (OpeningState → Type 0) → Asking Turn → Type 0
StaysOut Holds asking = Always (λ (t : Turn). NonePayload t.records × (stop_next t.next ≡ None → (t.next ≡ goes_on) × Holds t.state)) asking

-- ---- one event

module _ (hosts : Hosts) (s : OpeningState) (frame : Frame) (frames : List Frame) (first : IsFirst s) (event : Event) (read : event_of frame.kind frame.fields ≡ Ok event)
    (none : is_accepted hosts (frame ∷ frames) ≡ false) where
  no_exchange : (e : Event) → kind_of e ≡ kinds.ExchangeDone → IsNoExchange e → ⊥
  no_exchange (events.ExchangeDone x) is never = never
  no_exchange e is never = cc

  -- no verdict on the events after it is yes, unless it is an exchange, and none on an exchange that it is
  abbrev NoYes : Option (Result Bool HandlerError) → Type 0
  NoYes output =
      (IsNoExchange event → is_yes output ≡ false)
      × ((x : ExchangeResult) → event ≡ events.ExchangeDone x → is_yes (Some (said_of_key hosts (host_key x.key))) ≡ false)

  no_yes_by : (kind : EventKind) → kind_of event ≡ kind → event_of kind frame.fields ≡ Ok event →
      (output : Option (Result Bool HandlerError)) →
      is_yes (said_at kind hosts frame.fields output) ≡ false → NoYes output
  no_yes_by kinds.ExchangeDone is read output isnt =
      ((λ never. absurd (no_exchange event is never)), λ x same. rw (read, same) at isnt)
  no_yes_by kind is read output isnt =
      ((λ never. isnt), λ x same. (let clash = rw same at is in absurd cc))

  no_yes : NoYes (said_of_first hosts frames)
  unfolding said_of_first
  no_yes = no_yes_by frame.kind (subst (ReadAs frame.kind) read (read_as frame.kind frame.fields)) read
      (said_of_first hosts frames) none

  -- ---- rows

  next_out : (row : Row) (next : Next) → NonePayload row.records → FirstNext event next →
      StaysOut (IsEarly hosts frames) (done (next_turn frame.place s row next))
  next_out row (stays to) payloads goes = (payloads, λ on. (refl, (goes.0, no_yes.0 goes.1)))
  next_out row (opens to) payloads goes = absurd goes
  next_out row next payloads goes = (payloads, λ on. absurd cc)

  -- the rest of a row that isn't an accepted exchange's
  told_out : (told : Told) → (IsAccepted event told → ⊥) → StaysOut (IsEarly hosts frames) (asked_on (row_turn frame.place s) (open_row s event told))
  told_out told denied =
      always_on (StaysFirst event) (λ (t : Turn). StaysOut (IsEarly hosts frames) (done t)) (row_turn frame.place s) (open_row s event told)
      (λ row stays. next_out row row.next stays.0 stays.1) (first_law s event told first denied)

  not_went : (e : Event) (told : Told) → (told ≡ telling.Went → ⊥) → IsAccepted e told → ⊥
  not_went (events.ExchangeDone x) told denied is = denied is
  not_went e told denied is = is

  -- the gate accepts no exchange
  denied : (told : Told) → WasTold hosts s event told → IsAccepted event told → ⊥
  denied telling.NotAsked was = not_went event telling.NotAsked (λ same. absurd cc)
  denied telling.No was = not_went event telling.No (λ same. absurd cc)
  denied telling.Went (inl (key, asked, is)) = λ accepted.
      let for = asks_for s event key asked in
      let no : is_yes (Some (said_of_key hosts (host_key for.exchange.key))) ≡ false = no_yes.1 for.exchange for.is in
      let yes : is_yes (Some (said_of_key hosts (host_key for.exchange.key))) ≡ true = ap (λ (o : Option PublicKeyOrCertificate). is_yes (Some (said_of_key hosts o))) for.has ∙ ap (λ (r : Result Bool HandlerError). is_yes (Some r)) is in
      true≢false (sym yes ∙ no)
  denied telling.Went (inr more) = λ accepted. more (first_at_most s event first.exchanging)

  pub asked_out : StaysOut (IsEarly hosts frames) (asked_turn hosts frame.place s event (asked_of s event))
  asked_out = event_case hosts frame.place s event (StaysOut (IsEarly hosts frames)) (λ told was. told_out told (denied told was)) (λ key e asked is. (tt, λ on. absurd cc))

-- ---- every turn

-- a turn of the session writes none either, and if the run continues, it is before the first exchange afterwards too
turn_out : (hosts : Hosts) (accepts : Accepts) (w : SessionState) (frame : Frame) (frames : List Frame) (gained : List SignCall) (t : SessionTurn) → Makes (session_turn hosts accepts w frame) gained t → IsEarly hosts (frame ∷ frames) w.opening →
    NonePayload t.records × (stop_next t.next ≡ None → IsEarly hosts frames t.state.opening)
turn_out hosts accepts w frame frames gained t makes (first, none) =
    turn_by hosts accepts w frame (λ read gained t. event_of frame.kind frame.fields ≡ read → NonePayload t.records × (stop_next t.next ≡ None → IsEarly hosts frames t.state.opening))
    (λ event on read. let open_first : is_open phases.Exchanging ≡ true = rw (first.exchanging) at on in absurd cc)
    (λ event gained t un makes read.
    let out = always_makes (λ (t : Turn). StaysOut (IsEarly hosts frames) (done t)) (asked_turn hosts frame.place w.opening event (asked_of w.opening event)) gained t
    (asked_out hosts w.opening frame frames first event read none) makes in
    (out.0, λ on. (out.1 on).1))
    (λ e read. (tt, λ on. absurd cc)) gained t makes refl

-- a payload is the session's
none_of_agents : (records : List Record) → SaysBy is_session_record false records → NonePayload records
none_of_agents [] says = tt
none_of_agents (Payload packet ∷ records) (here, says) = absurd cc
none_of_agents (output ∷ records) (here, says) = ((λ never. never), none_of_agents records says)

-- an event that isn't the session's is no exchange
other_said : (hosts : Hosts) (frame : Frame) (output : Option (Result Bool HandlerError)) → session_own.event frame ≡ false → said_at frame.kind hosts frame.fields output ≡ output
other_said hosts frame output is = by frame.kind is
  where
    by : (kind : EventKind) → is_session_kind kind ≡ false → said_at kind hosts frame.fields output ≡ output
    by kinds.ExchangeDone own = absurd cc
    by kind other = refl

-- the verdict on the first exchange is that on the first among the session's events
pub said_of_own : (hosts : Hosts) (frames : List Frame) → said_of_first hosts (own_events session_own frames) ≡ said_of_first hosts frames
unfolding said_of_first
said_of_own hosts [] = refl
said_of_own hosts (frame ∷ frames) = by (session_own.event frame) refl (said_of_own hosts frames)
  where
    by : (mine : Bool) → session_own.event frame ≡ mine → said_of_first hosts (own_events session_own frames) ≡ said_of_first hosts frames → said_of_first hosts (own_events session_own (frame ∷ frames)) ≡ said_of_first hosts (frame ∷ frames)
    by true is later = ap (said_of_first hosts) (own_first session_own frame frames is) ∙ ap (said_at frame.kind hosts frame.fields) later
    by false is later = ap (said_of_first hosts) (other_first session_own frame frames is) ∙ later ∙ sym (other_said hosts frame (said_of_first hosts frames) is)

-- a turn of a run writes none either
run_out : (hosts : Hosts) (accepts : Accepts) (s : RunState) (frame : Frame) (frames : List Frame) (gained : List SignCall) (t : TurnOf RunState) → Makes (run_turn hosts accepts s frame) gained t → IsEarly hosts (frame ∷ frames) s.one.opening →
    NonePayload t.records × (stop_next t.next ≡ None → IsEarly hosts frames t.state.one.opening)
unfolding said_of_first
run_out hosts accepts s frame frames =
    run_by hosts accepts s frame
    (λ gained t. IsEarly hosts (frame ∷ frames) s.one.opening →
    NonePayload t.records × (stop_next t.next ≡ None → IsEarly hosts frames t.state.one.opening))
    (λ is gained t makes. turn_out hosts accepts s.one frame frames gained t makes)
    (λ is gained t makes before.
    let says = always_makes (λ (t : TurnOf Served). SaysBy is_session_record false t.records) (agents_turn s.other frame) gained t (agents_say s.other frame) makes in
    (none_of_agents t.records says, λ on. (before.0, sym (ap is_yes (other_said hosts frame (said_of_first hosts frames) is)) ∙ before.1)))

-- if the events hold no exchange whose host key is accepted first, no payload is written
pub gated : (hosts : Hosts) (accepts : Accepts) (st : ScriptStop) (frames : List Frame) (s : RunState) (answers : List Answer) → IsEarly hosts frames s.one.opening → NonePayload (events_run (run_turn hosts accepts) s frames st answers).records
gated hosts accepts st =
    run_law (run_turn hosts accepts) st (λ s frames answers r. IsEarly hosts frames s.one.opening → NonePayload r.records) (λ s answers before. tt) (λ s frame frames gained first before. tt)
    (λ s frame frames gained left t stop makes is before. (run_out hosts accepts s frame frames gained t makes before).0)
    (λ s frame frames gained left t r makes on later before.
    let out = run_out hosts accepts s frame frames gained t makes before in
    none_append t.records r.records out.0 (later (out.1 on)))

-- ---- the opening alone

-- the opening run doesn't open the session
abbrev pub IsShut : OpeningStop OpeningState → Type 0
IsShut stop = OpensIt stop → ⊥

shut_by_turn : (t : Turn) (next : Onward) (frames : List Frame) (left : List Answer) (later : OpeningRun OpeningState) → t.next ≡ next → (stop_next t.next ≡ None → (t.next ≡ goes_on) × IsShut later.stop) → IsShut (by_turn t next frames left later).stop
shut_by_turn t goes_on frames left later is out = (out (ap stop_next is)).1
shut_by_turn t opened frames left later is out = let clash : opened ≡ goes_on = sym is ∙ (out (ap stop_next is)).0 in absurd cc
shut_by_turn t (stopped stop) frames left later is out = λ it. it

-- if the events hold no exchange whose host key is accepted first, the opening doesn't open the session
pub opening_shut : (hosts : Hosts) (frames : List Frame) (o : OpeningState) (answers : List Answer) → IsFirst o → is_accepted hosts frames ≡ false → IsShut (opening (opening_turn hosts) o frames answers).stop
unfolding opening
opening_shut hosts [] o answers first none = λ it. it
opening_shut hosts (frame ∷ frames) o answers first none =
    asked_law (λ (answers : List Answer) (r : OpeningRun OpeningState). IsShut r.stop) (stops_with unanswered_stop) (opening_turn hosts o frame) answers
    (λ t left. by_turn t t.next frames left (opening (opening_turn hosts) t.state frames left)) (λ gained asked it. it)
    (λ gained t left makes.
    shut_by_turn t t.next frames left (opening (opening_turn hosts) t.state frames left) refl
    (λ on.
    let each : StaysOut (IsEarly hosts frames) (opening_turn hosts o frame) =
    opening_case hosts o frame (λ read asking. event_of frame.kind frame.fields ≡ read → StaysOut (IsEarly hosts frames) asking)
    (λ event is. asked_out hosts o frame frames first event is none) (λ e is. (tt, λ on. absurd cc)) refl
    in
    let out = (always_makes (λ (t : Turn). StaysOut (IsEarly hosts frames) (done t))
    (opening_turn hosts o frame) gained t each makes).1 on in
    (out.0, opening_shut hosts frames t.state left out.1.0 out.1.1)))
