-- Each turn of the opening that stops the run has its cause, stated by the script.
use Rattle.std.proofs.Common.{◌≡◌, ℕ, Bool, true, false, Option, Some, None, Result, Ok, Err, IfErr, refl, ap, sym, ◌∙◌, subst}
use Rattle.sshc_key.specs.declared.error.Error.{Error as KeyError}
use Rattle.sshc_key.specs.declared.error.Error.TheVariants as key_errors
use Rattle.sshc_key.specs.declared.identity.PublicKeyOrCertificate.{PublicKeyOrCertificate}
use Rattle.sshc_key.specs.declared.identity.PublicKeyOrCertificate.TheVariants as identities
use Rattle.sshc_hosts.specs.Judgement.{judged, IsRefusal}
use Rattle.sshc_hosts.specs.RefusalLaws.{judged-refuses}
use Rattle.sshc_auth_event.specs.HostKey.{host_key}
use Rattle.sshc_auth.specs.AskedLaws.{first_asks, AsksFor, asks_for}
use Rattle.sshc_auth.specs.CauseLaws.{SaysAlso, open_cause, caused_also}
use Rattle.sshc_auth.specs.Causes.{WasToldNo, why, Caused}
use Rattle.sshc_auth.specs.declared.ended.Ended.TheVariants as ends
use Rattle.sshc_auth.specs.declared.error.Error.{Error}
use Rattle.sshc_auth.specs.declared.error.Error.TheVariants as auths
use Rattle.sshc_auth.specs.declared.step.Asks.TheVariants as wants
use Rattle.sshc_auth.specs.declared.step.Told.{Told}
use Rattle.sshc_auth.specs.declared.step.Told.TheVariants as telling
use Rattle.sshc_auth.specs.OpeningTable.{key_asked}
use Rattle.sshc_auth.specs.Row.{ends as ends_with}
use Rattle.sshc_client_table.specs.OpenCauses.{IsCauseIn, IsSessionCause}
use Rattle.sshc_run_script.specs.declared.known_hosts_handler.HandlerError.TheVariants.{Key}
use Rattle.sshc_run_script.specs.Causes.{IsEventCause, IsSessionStop, SaysNo}
use Rattle.sshc_run_script.specs.ReachedStates.{StopsFor}
use Rattle.sshc_run_script.specs.Headline.{said_of_key}
use Rattle.sshc_run_script.proofs.RunNames.{Asking, asked_on, Always, always_on, Event, OpeningState, open_row, asked_of, Row, Next, refuses, SessionState, is_open, event_of, Frame, HandlerError, Hosts, verdict, as_handler, stopped, ended, IsNoEnd, Turn, error_of, handler_error_of, next_turn, row_turn, asked_turn}
use Rattle.sshc_run_script.proofs.OpeningTurns.{event_case, WasTold}

-- a turn that stops the run has its cause
abbrev pub TurnShows : Hosts → SessionState → Frame → Asking Turn → Type 0
TurnShows hosts w frame asking = Always (λ (t : Turn). StopsFor (IsSessionStop hosts w frame) t.next) asking

-- ---- a refusal of the known hosts text

is_key_error : (e : HandlerError) (output : Result Bool KeyError) → as_handler output ≡ Err e → IfErr output IsRefusal → (x : KeyError) × (e ≡ Key x) × IsRefusal x
is_key_error e (Ok accepted) is refusal = absurd cc
is_key_error e (Err x) is refusal = let same : e ≡ Key x = cc in (x, same, refusal)

-- it refuses a key by an error of its judgement
pub verdict_refuses : (hosts : Hosts) (key : PublicKeyOrCertificate) (e : HandlerError) → verdict hosts key ≡ Err e → (x : KeyError) × (e ≡ Key x) × IsRefusal x
unfolding verdict
verdict_refuses hosts (identities.PublicKey key hash) e is = is_key_error e (judged hosts.known hosts.host key.0) is (judged-refuses hosts.known hosts.host key.0)
verdict_refuses hosts (identities.Certificate key) e is = absurd cc

-- ---- errors of a session

module _ (hosts : Hosts) (w : SessionState) (frame : Frame) (event : Event) (read : event_of frame.kind frame.fields ≡ Ok event) where
  seen_so : (b : Bool) (e : Error) → is_open w.opening.phase ≡ b → IsCauseIn b (SaysNo hosts) w event e → IsSessionCause (SaysNo hosts) w event e
  seen_so b e is cause = subst (λ (x : Bool). IsCauseIn x (SaysNo hosts) w event e) (sym is) cause

  -- a refusal's cause in the session, by whether it is open
  pub refusal_shows : (b : Bool) (e : Error) → is_open w.opening.phase ≡ b → IsCauseIn b (SaysNo hosts) w event e → IsEventCause hosts w frame (error_of frame.place e)
  refusal_shows b auths.NoMemory is cause = tt
  refusal_shows b auths.SignerFault is cause = (event, read, seen_so b auths.SignerFault is cause)
  refusal_shows b auths.OutOfTurn is cause = (refl, (event, read, seen_so b auths.OutOfTurn is cause))
  refusal_shows b auths.TransportFailed is cause = (event, read, seen_so b auths.TransportFailed is cause)
  refusal_shows b auths.UnknownKey is cause = (event, read, seen_so b auths.UnknownKey is cause)
  refusal_shows b auths.Inconsistent is cause = (event, read, seen_so b auths.Inconsistent is cause)
  refusal_shows b auths.Pending is cause = (event, read, seen_so b auths.Pending is cause)
  refusal_shows b auths.NoAuthMethod is cause = (event, read, seen_so b auths.NoAuthMethod is cause)
  refusal_shows b auths.NotAuthenticated is cause = (event, read, seen_so b auths.NotAuthenticated is cause)
  refusal_shows b auths.SshEncoding is cause = (event, read, seen_so b auths.SshEncoding is cause)
  refusal_shows b auths.InvalidDisconnect is cause = (event, read, seen_so b auths.InvalidDisconnect is cause)
  refusal_shows b auths.RecvError is cause = (event, read, seen_so b auths.RecvError is cause)
  refusal_shows b auths.KeepaliveTimeout is cause = (event, read, seen_so b auths.KeepaliveTimeout is cause)
  refusal_shows b auths.InactivityTimeout is cause = (event, read, seen_so b auths.InactivityTimeout is cause)
  refusal_shows b auths.RekeyKey is cause = (event, read, seen_so b auths.RekeyKey is cause)
  refusal_shows true e is cause = absurd cause
  refusal_shows false e is cause = absurd cause

module _ (hosts : Hosts) (w : SessionState) (frame : Frame) (event : Event) (read : event_of frame.kind frame.fields ≡ Ok event) (unopened : is_open w.opening.phase ≡ false) where
  abbrev s : OpeningState
  s = w.opening

  -- ---- rows

  next_shows : (row : Row) (next : Next) → Caused (why (SaysNo hosts) s event) next → StopsFor (IsSessionStop hosts w frame) (next_turn frame.place s row next).next
  next_shows row (ends_with e) cause = (event, read, cause)
  next_shows row (refuses e) cause = refusal_shows hosts w frame event read false e unopened cause
  next_shows row next cause = tt

  -- the rest of a row, where a verdict that isn't yes is the verdict of the known hosts text
  told_shows : (told : Told) → SaysAlso (WasToldNo told) (SaysNo hosts) s event → TurnShows hosts w frame (asked_on (row_turn frame.place s) (open_row s event told))
  told_shows told also =
      always_on (λ (row : Row). Caused (why (WasToldNo told) s event) row.next) (λ (t : Turn). StopsFor (IsSessionStop hosts w frame) t.next) (row_turn frame.place s) (open_row s event told)
      (λ row cause. next_shows row row.next (caused_also (WasToldNo told) (SaysNo hosts) s event row.next also cause)) (open_cause s event told)

  -- what was asked about is the exchange's host key, or it has none
  none_asked : (o : Option PublicKeyOrCertificate) → key_asked o ≡ wants.Nothing → said_of_key hosts o ≡ Ok false
  none_asked None is = refl
  none_asked (Some key) is = absurd cc

  said_of_asked : (key : PublicKeyOrCertificate) (o : Option PublicKeyOrCertificate) → key_asked o ≡ wants.HostKey key → said_of_key hosts o ≡ verdict hosts key
  said_of_asked key None is = absurd cc
  said_of_asked key (Some other) is = let same : other ≡ key = cc in ap (verdict hosts) same

  -- a verdict that isn't yes is that of the known hosts text on the first exchange
  told_also : (told : Told) → WasTold hosts s event told → s.closed ≡ false → SaysAlso (WasToldNo told) (SaysNo hosts) s event
  told_also telling.NotAsked asked fresh = λ x is peer first denied. none_asked (host_key x.key) (sym (first_asks s event x fresh is peer first) ∙ asked)
  told_also telling.No (key, asked, output) fresh = λ x is peer first denied. said_of_asked key (host_key x.key) (sym (first_asks s event x fresh is peer first) ∙ asked) ∙ output
  told_also telling.Went was fresh = λ x is peer first denied. absurd (denied refl)

  -- ---- the known hosts text refuses

  key_shows : (key : PublicKeyOrCertificate) (k : KeyError) → AsksFor s event key → verdict hosts key ≡ Err (Key k) → IsRefusal k → IsEventCause hosts w frame (handler_error_of frame.place (Key k))
  key_shows key (key_errors.KeyChanged line) for output refusal = (for.first, (event, read, rw (for.is) (ap Some (ap (said_of_key hosts) for.has ∙ output))))
  key_shows key (key_errors.Revoked line) for output refusal = (for.first, (event, read, rw (for.is) (ap Some (ap (said_of_key hosts) for.has ∙ output))))
  key_shows key key_errors.Decode for output refusal = (for.first, (event, read, rw (for.is) (ap Some (ap (said_of_key hosts) for.has ∙ output))))
  key_shows key key_errors.SshKey for output refusal = (for.first, (event, read, rw (for.is) (ap Some (ap (said_of_key hosts) for.has ∙ output))))
  key_shows key key_errors.NoMemory for output refusal = tt
  key_shows key k for output refusal = absurd refusal

-- ---- every turn of the opening

-- an event that is read
pub event_shows : (hosts : Hosts) (w : SessionState) (frame : Frame) (event : Event) → event_of frame.kind frame.fields ≡ Ok event → is_open w.opening.phase ≡ false → w.opening.closed ≡ false →
    TurnShows hosts w frame (asked_turn hosts frame.place w.opening event (asked_of w.opening event))
event_shows hosts w frame event is unopened fresh =
    event_case hosts frame.place w.opening event (TurnShows hosts w frame)
    (λ told was. told_shows hosts w frame event is unopened told (told_also hosts w frame event is unopened told was fresh))
    (λ key e asked output.
    let (k, of_key, refusal) = verdict_refuses hosts key e output in
    subst (λ (x : HandlerError). IsEventCause hosts w frame (handler_error_of frame.place x)) (sym of_key)
    (key_shows hosts w frame event is unopened key k (asks_for w.opening event key asked)
    (output ∙ ap Err of_key) refusal))

-- ---- no turn ends with the script's end

next_never : (s : OpeningState) (event : Event) (told : Told) (place : ℕ) (row : Row) (next : Next) → Caused (why (WasToldNo told) s event) next → (next_turn place s row next).next ≡ stopped (ended ends.ScriptEnd) → ⊥
next_never s event told place row (ends_with ends.ScriptEnd) never is = never
next_never s event told place row next cause is = cc

pub asked_never : (hosts : Hosts) (place : ℕ) (s : OpeningState) (event : Event) → Always IsNoEnd (asked_turn hosts place s event (asked_of s event))
asked_never hosts place s event =
    event_case hosts place s event (Always IsNoEnd)
    (λ told was.
    always_on (λ (row : Row). Caused (why (WasToldNo told) s event) row.next) IsNoEnd (row_turn place s) (open_row s event told) (λ row cause. next_never s event told place row row.next cause)
    (open_cause s event told))
    (λ key e asked output is. cc)
