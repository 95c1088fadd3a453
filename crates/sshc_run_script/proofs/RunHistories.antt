-- Over a whole run the agent's records are the reports of one history: each event of an agent is a piece of it, and
-- each of the session doesn't change it.
use Rattle.std.proofs.Common.{◌≡◌, ℕ, true, false, not, List, [], ◌∷◌, ◌++◌, Option, Result, Ok, Err, refl, ap, sym, ◌∙◌, subst, append_assoc, inl, inr, None}
use Rattle.std.specs.Prelude.{◌⊎◌}
use Rattle.std.proofs.lemmas.List.Elements.{filter-append}
use Rattle.sshc_agent_core.specs.declared.entry.Entry.{Entry}
use Rattle.sshc_agent_core.specs.declared.input.AgentInput.{AgentInput}
use Rattle.sshc_agent_core.specs.declared.input.AgentOutput.{AgentOutput}
use Rattle.sshc_agent_core.specs.declared.input.AgentOutput.TheVariants as outputs
use Rattle.sshc_agent_core.specs.declared.input.Cause.TheVariants as causes
use Rattle.sshc_agent_core.specs.AgentFrames.{FrameBytes}
use Rattle.sshc_agent_core.specs.AgentHistory.{AreNumbered, Leads}
use Rattle.sshc_agent_core.specs.AgentList.{AgentList}
use Rattle.sshc_agent_core.specs.LocksHoldLaws.{locks_hold}
use Rattle.sshc_agent_core.specs.SignedEntriesLaws.{signatures_permitted}
use Rattle.sshc_run_agent.specs.declared.event.AgentEvent.{AgentEvent}
use Rattle.sshc_run_agent.specs.AgentEvents.{agent_event_of}
use Rattle.sshc_run_agent.specs.AgentTurns.{AgentTurn, Served, agent_turn, conn_of, each_turn, event_bytes, event_inputs, kept_with, records_of}
use Rattle.sshc_run_agent.specs.TurnLaws.{AreInputs, IsPiece, on_made, reported, turn_piece}
use Rattle.sshc_client_table.specs.SessionRecords.{is_session_record}
use Rattle.sshc_run_script.specs.AgentRuns.{TimedInput, HasOneHistory, inputs_along, inputs_at, inputs_by_event, inputs_in}
use Rattle.sshc_run_script.specs.Prefixes.{IsFront}
use Rattle.sshc_run_script.specs.Product.{in_other, others}
use Rattle.sshc_run_script.specs.declared.error.RunError.TheVariants as errors
use Rattle.sshc_run_script.proofs.RunNames.{append-nil, Record, SignCall, Answer, Makes, always_makes, Accepts, EventError, Frame, ScriptStop, stop_of, taken, agent_read_turn, agents_turn, going_on, RunSettings, Hosts, TurnOf, stop_next, SaysBy, own_events, own_records, RunState, run_machine, run_turn, events_run, script_run, session_own, SessionTurn, session_turn, stops}
use Rattle.sshc_run_script.proofs.PartRuns.{own_first, other_first}
use Rattle.sshc_run_script.proofs.SessionPart.{session_says, run_by}
use Rattle.sshc_run_script.proofs.RunLaws.{run_law}
use Rattle.sshc_run_script.proofs.AnsweredQuestions.{front_before}
use Rattle.sshc_run_script.proofs.OpeningTurns.{made_done}

-- ---- histories in sequence

leads_two : (a b c : AgentList) (x y : List Entry) → Leads a x b → Leads b y c → Leads a (x ++ y) c
leads_two a b c [] y one other = subst (λ (l : AgentList). Leads l y c) (sym one) other
leads_two a b c (e ∷ x) y (mid, is, one) other = (mid, is, leads_two mid b c x y one other)

numbers_two : (earlier x y : List Entry) → AreNumbered earlier x → AreNumbered (earlier ++ x) y → AreNumbered earlier (x ++ y)
numbers_two earlier [] y one other = subst (λ (es : List Entry). AreNumbered es y) (append-nil earlier) other
numbers_two earlier (e ∷ x) y one other =
    (one.0, numbers_two (earlier ++ e ∷ []) x y one.1 (subst (λ (es : List Entry). AreNumbered es y) (sym (append_assoc earlier (e ∷ []) x)) other))

reported_two : (x y : List Entry) → reported (x ++ y) ≡ reported x ++ reported y
reported_two [] y = refl
reported_two (e ∷ x) y = ap (λ (rs : List Record). records_of e.conn e.output ++ rs) (reported_two x y) ∙ sym (append_assoc (records_of e.conn e.output) (reported x) (reported y))

asked_two : (x y : List Entry) → inputs_in (x ++ y) ≡ inputs_in x ++ inputs_in y
asked_two [] y = refl
asked_two (e ∷ x) y = ap (λ (more : List TimedInput). record { moment = e.moment; conn = e.conn; input = e.input } ∷ more) (asked_two x y)

asked_same : (now conn : ℕ) (inputs : List AgentInput) (entries : List Entry) → AreInputs now conn inputs entries → inputs_in entries ≡ inputs_at now conn inputs
asked_same now conn [] [] are = refl
asked_same now conn (input ∷ inputs) (e ∷ entries) (when, whose, what, are) =
    ap (λ (m : ℕ). record { moment = m; conn = e.conn; input = e.input } ∷ inputs_in entries) when
    ∙ ap (λ (c : ℕ). record { moment = now; conn = c; input = e.input } ∷ inputs_in entries) whose
    ∙ ap (λ (i : AgentInput). record { moment = now; conn = conn; input = i } ∷ inputs_in entries) what
    ∙ ap (λ (more : List TimedInput). record { moment = now; conn = conn; input = input } ∷ more) (asked_same now conn inputs entries are)
asked_same now conn inputs entries never = absurd never

-- ---- the agent's records

abbrev agents_in : List Record → List Record
agents_in records = own_records (others session_own) records

agents_two : (a b : List Record) → agents_in (a ++ b) ≡ agents_in a ++ agents_in b
agents_two a b = filter-append (λ (output : Record). not (is_session_record output)) a b

-- none of the session's records is one of them
none_in : (records : List Record) → SaysBy is_session_record true records → agents_in records ≡ []
none_in [] says = refl
none_in (output ∷ records) (here, says) = rw here (none_in records says)

output_in : (conn : ℕ) (output : AgentOutput) → agents_in (records_of conn output) ≡ records_of conn output
output_in conn (outputs.Closed causes.NoMemory) = refl
output_in conn output = refl

-- the entries' reports are all of the agent's
reported_in : (entries : List Entry) → agents_in (reported entries) ≡ reported entries
reported_in [] = refl
reported_in (e ∷ entries) =
    agents_two (records_of e.conn e.output) (reported entries)
    ∙ ap (λ (rs : List Record). rs ++ agents_in (reported entries)) (output_in e.conn e.output)
    ∙ ap (λ (rs : List Record). records_of e.conn e.output ++ rs) (reported_in entries)

-- ---- a run after earlier entries

-- these records of agents continue the history of an agent by these inputs
record GoesOn (earlier : List Entry) (a : Served) (asked : List TimedInput) (output : List Record) : Type 0 where
  pub entries : List Entry
  pub last : AgentList
  pub leads : Leads a.list entries last
  pub numbers : AreNumbered earlier entries
  pub inputs : IsFront (inputs_in entries) asked
  pub reports : output ≡ reported entries

-- the inputs of the agents' events among these
abbrev asked_from : Served → List Frame → List TimedInput
asked_from a frames = inputs_along a.bytes (own_events (others session_own) frames)

-- a run's records continue the history by the inputs of its events
abbrev Continues : List Entry → Served → List Frame → List Record → Type 0
Continues earlier a frames records = GoesOn earlier a (asked_from a frames) (agents_in records)

-- no more records follow
ends_here : (earlier : List Entry) (a : Served) (asked : List TimedInput) → GoesOn earlier a asked []
ends_here earlier a asked =
    record { entries = []; last = a.list; leads = refl; numbers = tt; inputs = (asked, refl); reports = refl }

-- records of the session come first
behind_session : (earlier : List Entry) (a : Served) (asked : List TimedInput) (output records : List Record) →
    agents_in output ≡ [] →
    GoesOn earlier a asked (agents_in records) → GoesOn earlier a asked (agents_in (output ++ records))
behind_session earlier a asked output records none on =
    subst (GoesOn earlier a asked)
    (sym (agents_two output records ∙ ap (λ (rs : List Record). rs ++ agents_in records) none)) on

module _ (frame : Frame) (frames : List Frame) (a : Served) (event : AgentEvent) (mine : session_own.event frame ≡ false) (read : agent_event_of frame.kind frame.fields ≡ Ok event) where
  -- the inputs are those of the event, and then those of the events after it
  asked_first : asked_from a (frame ∷ frames)
      ≡ inputs_at frame.moment (conn_of event) (event_inputs event a.bytes) ++ inputs_along (event_bytes event a.bytes)
      (own_events (others session_own) frames)
  unfolding inputs_along
  asked_first =
      ap (inputs_along a.bytes) (own_first (others session_own) frame frames (ap not mine))
      ∙ ap (λ (r : Result AgentEvent EventError). inputs_by_event a.bytes frame.moment r (λ more. inputs_along more (own_events (others session_own) frames))) read

  -- a piece of the history, and then the run after it
  behind_piece : (earlier : List Entry) (t : AgentTurn) (records : List Record) → t.state.bytes ≡ event_bytes event a.bytes →
      (piece : IsPiece frame.moment (conn_of event) (event_inputs event a.bytes) earlier a.list t.records t.state.list) → Continues (earlier ++ piece.entries) t.state frames records → Continues earlier a (frame ∷ frames) (t.records ++ records)
  behind_piece earlier t records bytes piece on = record {
    entries = piece.entries ++ on.entries;
    last = on.last;
    leads = leads_two a.list t.state.list on.last piece.entries on.entries piece.leads on.leads;
    numbers = numbers_two earlier piece.entries on.entries piece.numbers on.numbers;
    inputs =
        rw (asked_first, asked_two piece.entries on.entries, asked_same frame.moment (conn_of event) (event_inputs event a.bytes) piece.entries piece.inputs_are)
        (front_before (inputs_at frame.moment (conn_of event) (event_inputs event a.bytes)) (inputs_in on.entries) (inputs_along (event_bytes event a.bytes) (own_events (others session_own) frames))
        (subst (λ (bs : List (ℕ × FrameBytes)). IsFront (inputs_in on.entries) (inputs_along bs (own_events (others session_own) frames))) bytes on.inputs));
    reports = agents_two t.records records ∙ ap (λ (rs : List Record). rs ++ agents_in records) (ap agents_in piece.reports ∙ reported_in piece.entries)
        ∙ ap (λ (rs : List Record). reported piece.entries ++ rs) on.reports ∙ sym (reported_two piece.entries on.entries);
  }

-- the bytes after an event
turn_bytes : (now : ℕ) (event : AgentEvent) (s : Served) (gained : List SignCall) (t : AgentTurn) → Makes (agent_turn now event s) gained t → t.state.bytes ≡ event_bytes event s.bytes
unfolding agent_turn
turn_bytes now event s gained t makes =
    let turn = on_made (kept_with (event_bytes event s.bytes)) (each_turn now (conn_of event) (event_inputs event s.bytes) s.list) gained t makes in
    ap (λ (x : AgentTurn). x.state.bytes) (sym turn.2)

-- ---- the run

module _ (hosts : Hosts) (accepts : Accepts) where
  module _ (s : RunState) (frame : Frame) (frames : List Frame) where
    -- the records of a turn continue the history, and so do those of the run after it, if it continues
    abbrev Adds : TurnOf RunState → Type 0
    Adds t =
        (earlier : List Entry) (records : List Record) → (records ≡ []) ⊎ (stop_next t.next ≡ None) →
        ((entries : List Entry) → Continues entries t.state.other frames records) →
        Continues earlier s.other (frame ∷ frames) (t.records ++ records)

    -- an agent's event that is read, or not
    agent_adds : (read : Result AgentEvent EventError) → agent_event_of frame.kind frame.fields ≡ read → session_own.event frame ≡ false → (gained : List SignCall) (t : TurnOf Served) →
        Makes (agent_read_turn frame.place frame.moment s.other read) gained t → Adds (in_other s t)
    agent_adds (Ok event) read is gained t makes =
        let turn = on_made going_on (agent_turn frame.moment event s.other) gained t makes in
        let bytes : turn.0.state.bytes ≡ event_bytes event s.other.bytes = turn_bytes frame.moment event s.other gained turn.0 turn.1 in
        subst (λ (t : TurnOf Served). Adds (in_other s t)) turn.2
        (λ earlier records on later.
        let piece = turn_piece frame.moment event s.other earlier gained turn.0 turn.1 in
        behind_piece frame frames s.other event is read earlier turn.0 records bytes piece (later (earlier ++ piece.entries)))
    agent_adds (Err e) read is gained t makes =
        made_done (λ gained t. Adds (in_other s t)) (stops s.other (errors.BadEvent frame.place))
        (λ earlier records on later.
        elim on [ inl none ↦ rw none (ends_here earlier s.other _) | inr goes ↦ absurd cc ]) gained t makes

    turn_adds : (gained : List SignCall) (t : TurnOf RunState) → Makes (run_turn hosts accepts s frame) gained t → Adds t
    unfolding agents_turn
    turn_adds =
        run_by hosts accepts s frame (λ gained t. Adds t)
        (λ is gained t makes earlier records on later.
        let says = always_makes (λ (x : SessionTurn). SaysBy is_session_record true x.records) (session_turn hosts accepts s.one frame) gained t (session_says hosts accepts s.one frame) makes in
        subst (λ (fs : List Frame).
        GoesOn earlier s.other (inputs_along s.other.bytes fs) (agents_in (t.records ++ records)))
        (sym (other_first (others session_own) frame frames (ap not is)))
        (behind_session earlier s.other (asked_from s.other frames) t.records records (none_in t.records says)
        (later earlier)))
        (λ is gained t makes. agent_adds (agent_event_of frame.kind frame.fields) refl is gained t makes)

  goes_along : (st : ScriptStop) (frames : List Frame) (s : RunState) (answers : List Answer) (earlier : List Entry) → Continues earlier s.other frames (events_run (run_turn hosts accepts) s frames st answers).records
  goes_along st =
      run_law (run_turn hosts accepts) st (λ s frames answers r. (earlier : List Entry) → Continues earlier s.other frames r.records) (λ s answers earlier. ends_here earlier s.other _)
      (λ s frame frames gained first earlier. ends_here earlier s.other _)
      (λ s frame frames gained left t stop makes is earlier.
      subst (Continues earlier s.other (frame ∷ frames)) (append-nil t.records) (turn_adds s frame frames gained t makes earlier [] (inl refl) (λ entries. ends_here entries t.state.other _)))
      (λ s frame frames gained left t r makes on later earlier. turn_adds s frame frames gained t makes earlier r.records (inr on) later)

-- the whole run of a script has one history
pub one_history : (hosts : Hosts) (accepts : Accepts) (settings : RunSettings) (max : ℕ) (answers : List Answer) (script : Option (List ℕ)) →
    HasOneHistory settings.agent_asks max (script_run (run_machine hosts accepts settings) max answers) script
one_history hosts accepts settings max answers script = λ bytes is.
    let on = goes_along hosts accepts (stop_of max bytes) (taken max bytes) (run_machine hosts accepts settings).first answers [] in
    record {
      entries = on.entries;
      last = on.last;
      leads = on.leads;
      numbers = on.numbers;
      inputs = on.inputs;
      reports = on.reports;
      locks = locks_hold on.entries;
      signed = signatures_permitted on.entries;
    }
