-- Over a whole run a password is written at most as often as the session's events asked for it: each event of the
-- session writes it as the opening's row does, an open session writes no request, and an agent writes no packet.
use Rattle.std.proofs.Common.{◌≡◌, ◌≤◌, ◌+◌, ℕ, false, List, [], ◌∷◌, Option, Ok, refl, ap, arith}
use Rattle.std.specs.List.{AllByRecursion}
use Rattle.sshc_wire.specs.Wire.{IsShort}
use Rattle.sshc_wire.specs.declared.record.Record.TheVariants as records
use Rattle.sshc_auth.specs.PasswordLaws.{Sound, open_sound, written_two}
use Rattle.sshc_auth.specs.Passwords.{FitsRequest, HasShortUser, password_packet, times_asked, times_waiting, times_written}
use Rattle.sshc_auth_request.specs.RequestTexts.{request}
use Rattle.sshc_client_table.specs.Moves.{Move, done as when_done}
use Rattle.sshc_client_table.specs.NoRequests.{WritesNone}
use Rattle.sshc_client_table.specs.NoRequestsLaws.{moves_request, said_none}
use Rattle.sshc_client_table.specs.SessionRecords.{is_session_record}
use Rattle.sshc_run_agent.specs.AgentTurns.{Served}
use Rattle.sshc_run_script.specs.PasswordRuns.{PasswordsAreAsked, times_asked_by, times_asked_in}
use Rattle.sshc_run_script.proofs.RunNames.{Record, SignCall, Answer, Makes, always_makes, Event, OpeningState, open_row, Next, Row, ends, refuses, Accepts, SessionState, SessionRow, session_row, all_moves, default_opinions, event_of, Frame, ScriptStop, stop_of, taken, agents_turn, RunSettings, Hosts, Onward, TurnOf, SaysBy, own_events, RunState, run_machine, run_turn, Run, events_run, script_run, session_own, SessionTurn, emptied, onward, said_by, session_turn, next_turn}
use Rattle.sshc_run_script.proofs.AgentsTurns.{agents_say}
use Rattle.sshc_run_script.proofs.OpeningTurns.{asked_by}
use Rattle.sshc_run_script.proofs.SessionTurns.{turn_by}
use Rattle.sshc_run_script.proofs.PartRuns.{other_first, own_first}
use Rattle.sshc_run_script.proofs.ShortUsers.{HasShortFields, events_short, user_of}
use Rattle.sshc_run_script.proofs.RunLaws.{run_law}
use Rattle.sshc_run_script.proofs.SessionPart.{run_by}

-- ---- records

-- an agent's records are no packets
none_of_agents : (packet : List ℕ) (output : List Record) → SaysBy is_session_record false output → times_written packet output ≡ 0
none_of_agents packet [] says = refl
none_of_agents packet (records.Agent conn answer ∷ output) says = none_of_agents packet output says.1
none_of_agents packet (one ∷ output) says = absurd cc

module _ (user password : List ℕ) (short : IsShort user) where
  abbrev packet : List ℕ
  packet = password_packet user password

  -- ---- an event of the session

  -- a turn writes the packet at most as often as it waited and is asked for, and less if it waits afterwards
  abbrev SoundTurn : OpeningState → ℕ → TurnOf OpeningState → Type 0
  SoundTurn s asked t = (times_written packet t.records + times_waiting packet t.state ≤ times_waiting packet s + asked) × FitsRequest t.state

  next_sound : (place : ℕ) (s : OpeningState) (event : Event) (output : List Record) (row : Row) (next : Next) → row.records ≡ output → FitsRequest s → Sound packet s event (record { records = output; next = next }) → SoundTurn s (times_asked packet event) (next_turn place s (record { records = output; next = next }) next)
  next_sound place s event output row (ends e) is fits sound = (sound.0, fits)
  next_sound place s event output row (refuses e) is fits sound = (sound.0, fits)
  next_sound place s event output row next is fits sound = sound

  -- the same of a session
  abbrev SoundStep : SessionState → ℕ → SessionTurn → Type 0
  SoundStep s asked t = (times_written packet t.records + times_waiting packet t.state.opening ≤ times_waiting packet s.opening + asked) × FitsRequest t.state.opening

  none_of_these : (output : List Record) → WritesNone output → times_written packet output ≡ 0
  unfolding request
  none_of_these output none = none _

  moves_sound : (moves : List Move) (s : SessionState) (asked : ℕ) (next : Onward) → FitsRequest s.opening →
      SoundStep s asked (record { records = said_by moves s; state = emptied (when_done moves s); next = next })
  moves_sound moves s asked next fits =
      let same = moves_request moves s in
      let none = none_of_these (said_by moves s) (said_none moves s) in
      let waits : times_waiting packet (when_done moves s).opening ≡ times_waiting packet s.opening =
      rw (same.phase, same.user, same.method) refl in
      (omega (arith, none, waits), rw (same.phase, same.session_id, same.user, same.method, same.handed) fits)

  turn_sound : (hosts : Hosts) (accepts : Accepts) (s : SessionState) (frame : Frame) (gained : List SignCall) (t : SessionTurn) → FitsRequest s.opening → HasShortFields frame → Makes (session_turn hosts accepts s frame) gained t →
      SoundStep s (times_asked_by packet (event_of frame.kind frame.fields)) t
  turn_sound hosts accepts s frame gained t fits fields makes =
      turn_by hosts accepts s frame (λ read gained t. ((event : Event) → read ≡ Ok event → HasShortUser event) → SoundStep s (times_asked_by packet read) t)
      (λ event on has.
      let row : SessionRow = session_row accepts (default_opinions s) s event in
      moves_sound (all_moves row) s (times_asked packet event) (onward frame.place row.next) fits)
      (λ event gained t un makes has.
      asked_by hosts frame.place s.opening event (λ calls t. SoundTurn s.opening (times_asked packet event) t)
      (λ told calls row made.
      next_sound frame.place s.opening event row.records row row.next refl fits
      (always_makes (Sound packet s.opening event) (open_row s.opening event told) calls row (open_sound user password short s.opening event told fits (has event refl)) made))
      (λ e. (omega arith, fits)) gained t makes)
      (λ e has. (omega arith, fits)) gained t makes (λ event read. user_of frame.kind frame.fields event read fields)

  -- ---- the run

  module _ (hosts : Hosts) (accepts : Accepts) where
    abbrev asked_from : List Frame → ℕ
    asked_from frames = times_asked_in packet (own_events session_own frames)

    -- with what waits after it and is asked for after it, a turn writes it no more often than it waited and is asked
    -- for
    abbrev AddsUp : RunState → Frame → List Frame → TurnOf RunState → Type 0
    AddsUp s frame frames t =
        (times_written packet t.records + times_waiting packet t.state.one.opening + asked_from frames ≤ times_waiting packet s.one.opening + asked_from (frame ∷ frames)) × FitsRequest t.state.one.opening

    turn_adds : (s : RunState) (frame : Frame) (frames : List Frame) (gained : List SignCall) (t : TurnOf RunState) → FitsRequest s.one.opening → HasShortFields frame → Makes (run_turn hosts accepts s frame) gained t → AddsUp s frame frames t
    turn_adds s frame frames gained t fits fields =
        run_by hosts accepts s frame (λ gained t. AddsUp s frame frames t)
        (λ is gained t makes.
        let sound = turn_sound hosts accepts s.one frame gained t fits fields makes in
        let whole : asked_from (frame ∷ frames) ≡ times_asked_by packet (event_of frame.kind frame.fields) + asked_from frames = ap (times_asked_in packet) (own_first session_own frame frames is) in
        (omega (arith, sound.0, whole), sound.1))
        (λ is gained t makes.
        let none = none_of_agents packet t.records (always_makes (λ (t : TurnOf Served). SaysBy is_session_record false t.records) (agents_turn s.other frame) gained t (agents_say s.other frame) makes) in
        let whole : asked_from (frame ∷ frames) ≡ asked_from frames = ap (times_asked_in packet) (other_first session_own frame frames is) in
        (omega (arith, none, whole), fits)) gained t

    -- a run from a state
    abbrev AtMost : RunState → List Frame → Run → Type 0
    AtMost s frames r = FitsRequest s.one.opening → AllByRecursion HasShortFields frames → times_written packet r.records ≤ times_waiting packet s.one.opening + asked_from frames

    at_most : (st : ScriptStop) (frames : List Frame) (s : RunState) (answers : List Answer) → AtMost s frames (events_run (run_turn hosts accepts) s frames st answers)
    at_most st =
        run_law (run_turn hosts accepts) st (λ s frames answers r. AtMost s frames r) (λ s answers fits fields. omega arith) (λ s frame frames gained first fits fields. omega arith)
        (λ s frame frames gained left t stop makes is fits fields. let adds = turn_adds s frame frames gained t fits fields.0 makes in omega (arith, adds.0))
        (λ s frame frames gained left t r makes on later fits fields.
        let adds = turn_adds s frame frames gained t fits fields.0 makes in
        omega (arith, adds.0, written_two packet t.records r.records, later adds.1 fields.1))

-- a run writes each password at most as often as it is asked for
pub passwords_asked : (hosts : Hosts) (accepts : Accepts) (settings : RunSettings) (max : ℕ) (answers : List Answer) (script : Option (List ℕ)) →
    PasswordsAreAsked max (script_run (run_machine hosts accepts settings) max answers) script
passwords_asked hosts accepts settings max answers script = λ bytes is user password short.
    let few = at_most user password short hosts accepts (stop_of max bytes) (taken max bytes) (run_machine hosts accepts settings).first answers
    (record { short = omega arith; handed = λ same. absurd cc; fresh = λ same. refl }) (events_short max 0 0 bytes) in
    omega (arith, few)
