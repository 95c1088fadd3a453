-- A turn of the opening by what it comes from: a row of its table, by what the gate told, or the gate's error. Each law
-- of a turn before the session is open is one use of this.
use Rattle.std.proofs.Common.{ℕ, Bool, true, false, List, [], ◌∷◌, Result, Ok, Err, subst, ◌≡◌, inl, inr, refl}
use Rattle.std.specs.Prelude.{◌⊎◌}
use Rattle.sshc_auth.specs.declared.step.Asks.{Asks}
use Rattle.sshc_auth.specs.declared.step.Asks.TheVariants as asking
use Rattle.sshc_auth.specs.declared.step.Told.{Told}
use Rattle.sshc_auth.specs.declared.step.Told.TheVariants as telling
use Rattle.sshc_run_agent.specs.TurnLaws.{on_made}
use Rattle.sshc_key.specs.declared.identity.PublicKeyOrCertificate.{PublicKeyOrCertificate}
use Rattle.sshc_auth.specs.AskedLaws.{IsKeyAtMost}
use Rattle.sshc_run_reader.specs.declared.error.EventError.TheVariants as reads
use Rattle.sshc_run_script.specs.declared.error.RunError.TheVariants as errors
use Rattle.sshc_run_script.proofs.RunNames.{SignCall, Makes, asked_on, Asking, done, Event, OpeningState, shut, open_row, asked_of, Row, EventError, event_of, Frame, HandlerError, Hosts, verdict, Turn, asked_turn, handler_error_of, judged_turn, row_turn, stops, event_turn, opening_turn, RunError}

-- why a row is followed by what the gate told: the gate wasn't asked; the known hosts text said no to a host key, or
-- yes; or the gate was called for more than a host key, which it never refuses
abbrev pub WasTold : Hosts → OpeningState → Event → Told → Type 0
WasTold hosts s event telling.NotAsked = asked_of s event ≡ asking.Nothing
WasTold hosts s event telling.No = (key : PublicKeyOrCertificate) × (asked_of s event ≡ asking.HostKey key) × (verdict hosts key ≡ Ok false)
WasTold hosts s event telling.Went =
    ((key : PublicKeyOrCertificate) × (asked_of s event ≡ asking.HostKey key) × (verdict hosts key ≡ Ok true)) ⊎ (IsKeyAtMost (asked_of s event) → ⊥)

-- how the reader of fields failed, as an error of the run
abbrev pub error_by : ℕ → EventError → RunError
error_by place x = elim x [ reads.NoMemory ↦ errors.NoMemory | reads.Bad ↦ errors.BadEvent place ]

-- the calls of what asks nothing
pub made_done : {T : Type 0} (Q : List SignCall → T → Type 0) (t : T) → Q [] t → (gained : List SignCall) (t' : T) → Makes (done t) gained t' → Q gained t'
made_done Q t holds [] t' is = subst (Q []) is holds
made_done Q t holds (call ∷ calls) t' never = absurd never

-- ---- an event that is read

module _ (hosts : Hosts) (place : ℕ) (s : OpeningState) (event : Event) where
  module _ (P : Asking Turn → Type 0)
      (table : (told : Told) → WasTold hosts s event told → P (asked_on (row_turn place s) (open_row s event told)))
      (refused : (key : PublicKeyOrCertificate) (e : HandlerError) → asked_of s event ≡ asking.HostKey key → verdict hosts key ≡ Err e → P (done (stops (shut s) (handler_error_of place e)))) where
    judged_case : (key : PublicKeyOrCertificate) (output : Result Bool HandlerError) → asked_of s event ≡ asking.HostKey key → verdict hosts key ≡ output → P (judged_turn place s event output)
    judged_case key (Ok true) asked is = table telling.Went (inl (key, asked, is))
    judged_case key (Ok false) asked is = table telling.No (key, asked, is)
    judged_case key (Err e) asked is = refused key e asked is

    asked_case : (wanted : Asks) → asked_of s event ≡ wanted → P (asked_turn hosts place s event wanted)
    asked_case asking.Nothing asked = table telling.NotAsked asked
    asked_case (asking.HostKey key) asked = judged_case key (verdict hosts key) asked refl
    asked_case wanted asked = table telling.Went (inr (λ most. subst IsKeyAtMost asked most))

    -- what holds of each row and of the gate's error holds of the turn
    pub event_case : P (asked_turn hosts place s event (asked_of s event))
    event_case = asked_case (asked_of s event) refl

  -- the same by the calls of the signer and the turn that they make
  pub asked_by : (Q : List SignCall → Turn → Type 0) → ((told : Told) (calls : List SignCall) (row : Row) → Makes (open_row s event told) calls row → Q calls (row_turn place s row)) →
      ((e : HandlerError) → Q [] (stops (shut s) (handler_error_of place e))) → (calls : List SignCall) (t : Turn) → Makes (asked_turn hosts place s event (asked_of s event)) calls t → Q calls t
  asked_by Q table refused =
      event_case (λ asking. (calls : List SignCall) (t : Turn) → Makes asking calls t → Q calls t)
      (λ told was calls t makes. let row = on_made (row_turn place s) (open_row s event told) calls t makes in subst (Q calls) row.2 (table told calls row.0 row.1))
      (λ key e asked is. made_done Q (stops (shut s) (handler_error_of place e)) (refused e))

-- ---- any event

module _ (hosts : Hosts) (s : OpeningState) (frame : Frame) (P : Result Event EventError → Asking Turn → Type 0)
    (event_turns : (event : Event) → P (Ok event) (asked_turn hosts frame.place s event (asked_of s event))) (bad : (e : EventError) → P (Err e) (done (stops s (error_by frame.place e)))) where
  read_case : (read : Result Event EventError) → P read (event_turn hosts frame.place s read)
  read_case (Ok event) = event_turns event
  read_case (Err reads.Bad) = bad reads.Bad
  read_case (Err reads.NoMemory) = bad reads.NoMemory

  pub opening_case : P (event_of frame.kind frame.fields) (opening_turn hosts s frame)
  unfolding opening_turn
  opening_case = read_case (event_of frame.kind frame.fields)
