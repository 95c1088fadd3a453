-- What a session asks the signer along a run, and what it outputs to be signed (RFC 4252, section 7; RFC 4253, section
-- 7.2): the signed text of the first exchange's hash and of a request that an earlier event asked for. Stated of each
-- state that the session comes to, with the events before it; the code keeps no list of them.
use Rattle.std.specs.Prelude.{◌≡◌, ◌≢◌, ◌≤◌, ◌+◌, ℕ, false, List, [], ◌∷◌, length, Option, Some, None, Result, Ok, Err}
use Rattle.std.specs.List.{AllByRecursion}
use Rattle.sshc_key.specs.Asking.{Answer}
use Rattle.sshc_auth_event.specs.declared.event.Event.{Event}
use Rattle.sshc_auth_event.specs.declared.event.Event.TheVariants as events
use Rattle.sshc_auth_event.specs.declared.method.Method.{Method}
use Rattle.sshc_auth_event.specs.declared.method.Method.TheVariants as methods
use Rattle.sshc_transport.specs.declared.exchange.ExchangeKey.{ExchangeKey}
use Rattle.sshc_auth.specs.declared.opening.Phase.TheVariants as phases
use Rattle.sshc_auth.specs.SignedRuns.{IsHandedFor, IsSignedFor}
use Rattle.sshc_client_packets.specs.HostKeyProof.{Accepts}
use Rattle.sshc_client_table.specs.SessionState.{SessionState, is_open}
use Rattle.sshc_run_reader.specs.declared.error.EventError.{EventError}
use Rattle.sshc_run_reader.specs.EventReading.{event_of}
use Rattle.sshc_run_reader.specs.Script.{Frame, taken}
use Rattle.sshc_run_script.specs.Configured.{RunSettings}
use Rattle.sshc_run_script.specs.KnownHosts.{Hosts}
use Rattle.sshc_run_script.specs.Path.{StepOf}
use Rattle.sshc_run_script.specs.SessionPaths.{EachPath}
use Rattle.sshc_run_script.specs.Part.{own_calls, own_events}
use Rattle.sshc_run_script.specs.ScriptRun.{Run}
use Rattle.sshc_run_script.specs.SessionPart.{session_own}

-- ---- the events before a state, the latest first

abbrev pub with_event : Result Event EventError → List Event → List Event
with_event (Ok event) past = event ∷ past
with_event (Err e) past = past

-- the hash and the host key of the first exchange that was done among them
abbrev pub or_exchange : Option (List ℕ × ExchangeKey) → Event → Option (List ℕ × ExchangeKey)
or_exchange (Some first) event = Some first
or_exchange None (events.ExchangeDone x) = Some (x.session_hash, x.key)
or_exchange None event = None

abbrev pub first_exchange : List Event → Option (List ℕ × ExchangeKey)
first_exchange [] = None
first_exchange (event ∷ past) = or_exchange (first_exchange past) event

-- an event that is an exchange has this host key
abbrev pub HasHostKey : ExchangeKey → Event → Type 0
HasHostKey key (events.ExchangeDone x) = x.key ≡ key
HasHostKey key event = Unit {0}

-- ---- over a run

-- what is true of a step, with the events before it
pub record IsSignedStep (past : List Event) (x : StepOf SessionState) : Type 0 where
  -- after the first exchange its hash is the session id, and its host key the session's
  pub session : x.before.opening.phase ≢ phases.Exchanging → first_exchange past ≡ Some (x.before.opening.session_id, x.before.opening.host_key)
  -- and each exchange that was done had it
  pub key : x.before.opening.phase ≢ phases.Exchanging → AllByRecursion (HasHostKey x.before.opening.host_key) past
  -- the signer is asked for the signed text of the session id and of a request among the events
  pub asked : AllByRecursion (IsSignedFor x.before.opening.session_id past) x.gained
  -- the bytes that are output to be signed, until the session is open, are such a text too
  pub handed : is_open x.before.opening.phase ≡ false → AllByRecursion (IsHandedFor x.before.opening.session_id past) x.turn.records

-- each of these steps, behind those events
abbrev pub AreSignedSteps : List Event → List (StepOf SessionState) → Type 0
AreSignedSteps past [] = Unit {0}
AreSignedSteps past (x ∷ steps) = IsSignedStep past x × AreSignedSteps (with_event (event_of x.frame.kind x.frame.fields) past) steps

-- along each path of the session
abbrev pub AreSigned : Hosts → Accepts → RunSettings → ℕ → List Answer → Option (List ℕ) → Type 0
AreSigned hosts accepts settings max answers script = EachPath hosts accepts settings max answers script (λ steps s. AreSignedSteps [] steps)

-- ---- how often

-- 1 for a request by a key of which the pair is available
abbrev pub by_pair : Method → ℕ
by_pair (methods.PublicKey key) = 1
by_pair (methods.OpenSshCertificate key cert) = 1
by_pair method = 0

abbrev pub pair_request : Event → ℕ
pair_request (events.Authenticate ticket user method) = by_pair method
pair_request event = 0

abbrev pub pair_request_by : Result Event EventError → ℕ
pair_request_by (Ok event) = pair_request event
pair_request_by (Err e) = 0

-- how many of the events ask to authenticate in this way
abbrev pub pair_requests : List Frame → ℕ
pair_requests [] = 0
pair_requests (frame ∷ frames) = pair_request_by (event_of frame.kind frame.fields) + pair_requests frames

-- the session asks the signer at most as often as its events ask to authenticate by such a key
abbrev pub CallsAreCounted : ℕ → (List ℕ → Run) → Option (List ℕ) → Type 0
CallsAreCounted max table script =
    (bytes : List ℕ) → script ≡ Some bytes → length (own_calls session_own (table bytes).calls) ≤ pair_requests (own_events session_own (taken max bytes))
