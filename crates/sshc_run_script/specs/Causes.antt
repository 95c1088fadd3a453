-- Why a run ends: by the state that its table comes to, the event there, and the verdict of the known hosts text. The
-- rows of the tables aren't named here, so that an error made both in a table and in the code shows; why a session
-- refuses or ends is stated by its state and the event (sshc_auth, Causes; sshc_client_table, OpenCauses). An agent
-- refuses no event that can be read.
use Rattle.std.specs.Prelude.{◌≡◌, ℕ, false, List, Option, Some, Result, Ok, Err, Bool}
use Rattle.sshc_key.specs.declared.error.Error.TheVariants as key_errors
use Rattle.sshc_key.specs.Asking.{Answer}
use Rattle.sshc_auth_event.specs.HostKey.{host_key}
use Rattle.sshc_auth_event.specs.declared.event.Event.{Event}
use Rattle.sshc_transport.specs.declared.exchange.ExchangeResult.{ExchangeResult}
use Rattle.sshc_auth.specs.Causes.{IsEndCause}
use Rattle.sshc_auth.specs.declared.ended.Ended.{Ended}
use Rattle.sshc_auth.specs.declared.error.Error.{Error}
use Rattle.sshc_auth.specs.declared.error.Error.TheVariants as auths
use Rattle.sshc_auth.specs.declared.opening.Phase.TheVariants as phases
use Rattle.sshc_client_packets.specs.HostKeyProof.{Accepts}
use Rattle.sshc_client_table.specs.SessionState.{SessionState}
use Rattle.sshc_client_table.specs.OpenCauses.{IsSessionCause}
use Rattle.sshc_run_reader.specs.declared.error.EventError.TheVariants as reads
use Rattle.sshc_run_script.specs.declared.error.RunError.{RunError}
use Rattle.sshc_run_script.specs.declared.error.RunError.TheVariants as errors
use Rattle.sshc_run_script.specs.declared.known_hosts_handler.HandlerError.{HandlerError}
use Rattle.sshc_run_script.specs.declared.known_hosts_handler.HandlerError.TheVariants.{Key}
use Rattle.sshc_run_script.specs.ReachedStates.{CausedBy}
use Rattle.sshc_run_script.specs.Headline.{said_of_key, said_by}
use Rattle.sshc_run_script.specs.KnownHosts.{Hosts}
use Rattle.sshc_run_script.specs.Machine.{RunStop, ended, refused, unanswered_stop}
use Rattle.sshc_run_script.specs.Outcome.{stop_as}
use Rattle.sshc_run_reader.specs.EventReading.{event_of}
use Rattle.sshc_run_script.specs.Configured.{RunSettings}
use Rattle.sshc_run_script.specs.Product.{BothCause}
use Rattle.sshc_run_script.specs.RunTurn.{RunState, run_machine, run_turn}
use Rattle.sshc_run_script.specs.SessionPart.{IsAgentCause, session_own}
use Rattle.sshc_run_reader.specs.Script.{Frame, taken, stop_of}

-- ---- what may be wrong with an event

-- the fields of the event at this place are outside the grammar
abbrev pub IsBadAt : ℕ → Frame → Type 0
IsBadAt at frame = (frame.place ≡ at) × (event_of frame.kind frame.fields ≡ Err reads.Bad)

-- its fields can be read, and the predicate is true of the event
abbrev pub OnRead : Frame → (Event → Type 0) → Type 0
OnRead frame Holds = (event : Event) × (event_of frame.kind frame.fields ≡ Ok event) × Holds event

-- the verdict of the known hosts text on the host key of the first exchange, which this event is
abbrev pub IsSaid : Hosts → SessionState → Frame → Result Bool HandlerError → Type 0
IsSaid hosts s frame output = (s.opening.phase ≡ phases.Exchanging) × OnRead frame (λ event. said_by hosts (Ok event) ≡ Some output)

-- an exchange has no host key, or the known hosts text says no to it
abbrev pub SaysNo : Hosts → ExchangeResult → Type 0
SaysNo hosts x = said_of_key hosts (host_key x.key) ≡ Ok false

-- the session refuses the event with this error, for its cause
abbrev pub IsRefusedBy : Hosts → SessionState → Frame → Error → Type 0
IsRefusedBy hosts s frame e = OnRead frame (λ event. IsSessionCause (SaysNo hosts) s event e)

-- ---- causes

-- why an event of the session is refused; memory may run out at any time
abbrev pub IsEventCause : Hosts → SessionState → Frame → RunError → Type 0
IsEventCause hosts s frame errors.NoMemory = Unit {0}
IsEventCause hosts s frame (errors.BadEvent at) = IsBadAt at frame
IsEventCause hosts s frame (errors.OutOfTurn at) = (frame.place ≡ at) × IsRefusedBy hosts s frame auths.OutOfTurn
IsEventCause hosts s frame (errors.KeyChanged line) = IsSaid hosts s frame (Err (Key (key_errors.KeyChanged line)))
IsEventCause hosts s frame (errors.Revoked line) = IsSaid hosts s frame (Err (Key (key_errors.Revoked line)))
IsEventCause hosts s frame errors.Decode = IsSaid hosts s frame (Err (Key key_errors.Decode))
IsEventCause hosts s frame errors.SshKey = IsSaid hosts s frame (Err (Key key_errors.SshKey))
IsEventCause hosts s frame errors.UnknownKey = IsRefusedBy hosts s frame auths.UnknownKey
IsEventCause hosts s frame errors.SignerFault = IsRefusedBy hosts s frame auths.SignerFault
IsEventCause hosts s frame errors.TransportFailed = IsRefusedBy hosts s frame auths.TransportFailed
IsEventCause hosts s frame errors.Inconsistent = IsRefusedBy hosts s frame auths.Inconsistent
IsEventCause hosts s frame errors.Pending = IsRefusedBy hosts s frame auths.Pending
IsEventCause hosts s frame errors.NoAuthMethod = IsRefusedBy hosts s frame auths.NoAuthMethod
IsEventCause hosts s frame errors.NotAuthenticated = IsRefusedBy hosts s frame auths.NotAuthenticated
IsEventCause hosts s frame errors.SshEncoding = IsRefusedBy hosts s frame auths.SshEncoding
IsEventCause hosts s frame errors.InvalidDisconnect = IsRefusedBy hosts s frame auths.InvalidDisconnect
IsEventCause hosts s frame errors.RecvError = IsRefusedBy hosts s frame auths.RecvError
IsEventCause hosts s frame errors.KeepaliveTimeout = IsRefusedBy hosts s frame auths.KeepaliveTimeout
IsEventCause hosts s frame errors.InactivityTimeout = IsRefusedBy hosts s frame auths.InactivityTimeout
IsEventCause hosts s frame errors.RekeyKey = IsRefusedBy hosts s frame auths.RekeyKey
IsEventCause hosts s frame e = ⊥

-- why a run stops with an event of the session: the event is refused, or it ends the session
abbrev pub IsSessionStop : Hosts → SessionState → Frame → RunStop → Type 0
IsSessionStop hosts s frame (refused e) = IsEventCause hosts s frame e
IsSessionStop hosts s frame (ended e) = OnRead frame (λ event. IsEndCause s.opening event e)
IsSessionStop hosts s frame unanswered_stop = ⊥

-- why a run stops with an event: for an event of the session by the session's cause, for an agent's event by the
-- agent's
abbrev pub IsStopCause : Hosts → RunState → Frame → RunStop → Type 0
IsStopCause hosts = BothCause session_own (IsSessionStop hosts) (λ s frame stop. IsAgentCause frame stop)

-- the cause of a result, by the script's first events, the bytes after them and the signer's answers; memory may run
-- out at any time, and faults of reading and writing have their own clauses
abbrev pub HasCauseIn : Hosts → Accepts → RunSettings → ℕ → List Answer → List ℕ → Result Ended RunError → Type 0
HasCauseIn hosts accepts settings max answers script (Err errors.NoMemory) = Unit {0}
HasCauseIn hosts accepts settings max answers script (Err errors.ReadFault) = Unit {0}
HasCauseIn hosts accepts settings max answers script (Err errors.WriteFault) = Unit {0}
HasCauseIn hosts accepts settings max answers script answer = CausedBy (run_turn hosts accepts) (run_machine hosts accepts settings).first (IsStopCause hosts) (taken max script) (stop_of max script) answers (stop_as answer)

-- each result has its cause in the whole script
abbrev pub IsCaused : Hosts → Accepts → RunSettings → ℕ → List Answer → Option (List ℕ) → Result Ended RunError → Type 0
IsCaused hosts accepts settings max answers script answer = (bytes : List ℕ) → script ≡ Some bytes → HasCauseIn hosts accepts settings max answers bytes answer
