-- What taking an event does, for the session and for the agent: an event that can be read, and one whose fields can't
-- be.
use Rattle.std.proofs.Common.{◌≡◌, ℕ, List, Option, Some, None, Ok, Err, inl, inr, refl, ap}
use Rattle.sshc_wire.specs.declared.source.Failed.{Failed}
use Rattle.sshc_wire.specs.declared.source.Failed.TheVariants as failures
use Rattle.sshc_run_agent.specs.declared.event.AgentEvent.{AgentEvent}
use Rattle.sshc_run_agent.specs.AgentEvents.{agent_event_of}
use Rattle.sshc_run_agent.specs.AgentTurns.{Served, agent_turn}
use Rattle.sshc_auth.specs.declared.step.Step.TheVariants as steps
use Rattle.sshc_run_reader.specs.declared.error.EventError.TheVariants as reads
use Rattle.sshc_run_reader.specs.Gives.{Fails}
use Rattle.sshc_run_script.specs.declared.error.RunError.TheVariants as errors
use Rattle.sshc_run_script.proofs.RunNames.{append, WroteFront, Record, Makes, MakesFirst, SignCall, since, first_on, makes_on, none_first, Event, Accepts, SessionState, is_open, EventError, event_of, Frame, RunError, agent_read_turn, agents_turn, going_on, served_turn, Hosts, lines, read_turn, session_turn, step_turn, stops, Came, TakeGives, Asking, TurnOf, done}
use Rattle.sshc_run_script.proofs.TakenEvents.{unasked as none_taken, stops_turn, written_turn, cut_turn}
use Rattle.sshc_run_script.proofs.OpeningTurns.{error_by}

-- the fields of an event can't be read, or memory ran out
unread : {S : Type 0} (asking : Asking (TurnOf S)) (place : ℕ) (s : S) (calls : List SignCall) (held : Option (List ℕ)) (x : EventError) (e : RunError) → (x ≡ reads.Bad → asking ≡ done (stops s (errors.BadEvent place))) → e ≡ error_by place x →
    TakeGives asking (since calls calls) s held held (Some (Err e))
unread asking place s calls held reads.NoMemory e bad is = rw is (none_taken asking calls s held held (Some (Err errors.NoMemory)) (inl (none_first asking, refl)))
unread asking place s calls held reads.Bad e bad is = rw (is, bad refl) (stops_turn (stops s (errors.BadEvent place)) s calls held (errors.BadEvent place) refl refl)

-- ---- the session

module _ (hosts : Hosts) (accepts : Accepts) where
  -- an event that is read is taken by a step of the session
  pub event_taken : (s : SessionState) (frame : Frame) (event : Event) → event_of frame.kind frame.fields ≡ Ok event →
      session_turn hosts accepts s frame ≡ step_turn (is_open s.opening.phase) hosts accepts frame.place s event
  unfolding session_turn
  event_taken s frame event read = ap (read_turn hosts accepts frame.place s) read

  pub unread_turn : (s : SessionState) (frame : Frame) (calls : List SignCall) (held : Option (List ℕ)) (x : EventError) (e : RunError) →
      Fails x (event_of frame.kind frame.fields) → e ≡ error_by frame.place x → TakeGives (session_turn hosts accepts s frame) (since calls calls) s held held (Some (Err e))
  unfolding session_turn
  unread_turn s frame calls held x e fails is = unread (session_turn hosts accepts s frame) frame.place s calls held x e (λ bad. ap (read_turn hosts accepts frame.place s) (rw bad at fails)) is

-- ---- the agent

-- an event that is read is taken by the agent
pub served_taken : (s : Served) (frame : Frame) (event : AgentEvent) → agent_event_of frame.kind frame.fields ≡ Ok event → agents_turn s frame ≡ served_turn frame.moment event s
unfolding agents_turn
served_taken s frame event read = ap (agent_read_turn frame.place frame.moment s) read

pub agent_unread : (s : Served) (frame : Frame) (calls : List SignCall) (held : Option (List ℕ)) (x : EventError) (e : RunError) →
    Fails x (agent_event_of frame.kind frame.fields) → e ≡ error_by frame.place x → TakeGives (agents_turn s frame) (since calls calls) s held held (Some (Err e))
unfolding agents_turn
agent_unread s frame calls held x e fails is = unread (agents_turn s frame) frame.place s calls held x e (λ bad. ap (agent_read_turn frame.place frame.moment s) (rw bad at fails)) is

module _ (moment : ℕ) (event : AgentEvent) (s after : Served) (gained : List SignCall) (held now : Option (List ℕ)) where
  served_came : (records : List Record) → Makes (agent_turn moment event s) gained (record { records = records; state = after }) → Came (served_turn moment event s) gained 0 steps.Went after records
  served_came records makes =
      inr (going_on (record { records = records; state = after }), makes_on going_on (agent_turn moment event s) gained (record { records = records; state = after }) makes, refl, refl, λ none. refl)

  -- all records of the event are written
  pub served_written : (records : List Record) → Makes (agent_turn moment event s) gained (record { records = records; state = after }) → now ≡ append held (lines records) →
      TakeGives (served_turn moment event s) gained after held now None
  served_written records makes all = written_turn (served_turn moment event s) gained 0 steps.Went after records held now (served_came records makes) all

  -- a prefix of their lines is written
  pub served_cut : (records : List Record) (failed : Failed) (e : RunError) → Makes (agent_turn moment event s) gained (record { records = records; state = after }) → WroteFront held now (lines records) →
      e ≡ (elim failed [ failures.Fault ↦ errors.WriteFault | failures.NoMemory ↦ errors.NoMemory ]) → TakeGives (served_turn moment event s) gained after held now (Some (Err e))
  served_cut records failed e makes part is = cut_turn (served_turn moment event s) gained 0 steps.Went after records held now failed e (served_came records makes) part is

-- memory ran out in the event, and nothing is written
pub served_out : (moment : ℕ) (event : AgentEvent) (s after : Served) (gained : List SignCall) (held : Option (List ℕ)) → MakesFirst (agent_turn moment event s) gained →
    TakeGives (served_turn moment event s) gained after held held (Some (Err errors.NoMemory))
served_out moment event s after gained held first = inl (first_on going_on (agent_turn moment event s) gained first, refl)
