-- What one event of a script does before the session is open: its records, the state afterwards, and whether the run
-- continues. A table by cases over the opening's rows; the code calls the gate and applies the row.
use Rattle.std.specs.Prelude.{ℕ, Bool, true, false, [], Result, Ok, Err}
use Rattle.sshc_key.specs.declared.error.Error.{Error as KeyError}
use Rattle.sshc_key.specs.declared.error.Error.TheVariants as key_errors
use Rattle.sshc_key.specs.Asking.{Asking, done, asked_on}
use Rattle.sshc_auth.specs.declared.error.Error.{Error}
use Rattle.sshc_auth.specs.declared.error.Error.TheVariants as auths
use Rattle.sshc_auth_event.specs.declared.event.Event.{Event}
use Rattle.sshc_auth.specs.declared.step.Asks.{Asks}
use Rattle.sshc_auth.specs.declared.step.Asks.TheVariants as asking
use Rattle.sshc_auth.specs.declared.step.Told.TheVariants as telling
use Rattle.sshc_auth.specs.declared.opening.Settings.{Settings}
use Rattle.sshc_auth.specs.OpeningState.{OpeningState, shut, start}
use Rattle.sshc_auth.specs.OpeningTable.{open_row, asked_of}
use Rattle.sshc_auth.specs.Row.{Row, Next, stays, opens, ends as ends_with, refuses}
use Rattle.sshc_run_reader.specs.declared.error.EventError.{EventError}
use Rattle.sshc_run_reader.specs.declared.error.EventError.TheVariants as reads
use Rattle.sshc_run_script.specs.declared.error.RunError.{RunError}
use Rattle.sshc_run_script.specs.declared.error.RunError.TheVariants as errors
use Rattle.sshc_run_script.specs.declared.known_hosts_handler.HandlerError.{HandlerError}
use Rattle.sshc_run_script.specs.declared.known_hosts_handler.HandlerError.TheVariants.{Client, Key}
use Rattle.sshc_run_script.specs.KnownHosts.{Hosts, verdict}
use Rattle.sshc_run_script.specs.Machine.{goes_on, opened, stopped, ended, refused, TurnOf, Turns, Machine}
use Rattle.sshc_run_reader.specs.EventReading.{event_of}

-- ---- errors of a run

-- an error of the session at a place; the last five never come from a step
abbrev pub error_of : ℕ → Error → RunError
error_of place auths.NoMemory = errors.NoMemory
error_of place auths.SignerFault = errors.SignerFault
error_of place auths.OutOfTurn = errors.OutOfTurn place
error_of place auths.TransportFailed = errors.TransportFailed
error_of place auths.UnknownKey = errors.UnknownKey
error_of place auths.Inconsistent = errors.Inconsistent
error_of place auths.Pending = errors.Pending
error_of place auths.NoAuthMethod = errors.NoAuthMethod
error_of place auths.NotAuthenticated = errors.NotAuthenticated
error_of place auths.SshEncoding = errors.SshEncoding
error_of place auths.InvalidDisconnect = errors.InvalidDisconnect
error_of place auths.RecvError = errors.RecvError
error_of place auths.KeepaliveTimeout = errors.KeepaliveTimeout
error_of place auths.InactivityTimeout = errors.InactivityTimeout
error_of place auths.RekeyKey = errors.RekeyKey
error_of place e = errors.Inconsistent

-- a refusal of the known hosts text; the judgement returns no others than these
abbrev pub key_error_of : KeyError → RunError
key_error_of (key_errors.KeyChanged line) = errors.KeyChanged line
key_error_of (key_errors.Revoked line) = errors.Revoked line
key_error_of key_errors.Decode = errors.Decode
key_error_of key_errors.NoMemory = errors.NoMemory
key_error_of e = errors.SshKey

abbrev pub handler_error_of : ℕ → HandlerError → RunError
handler_error_of place (Client e) = error_of place e
handler_error_of place (Key e) = key_error_of e

-- ---- a turn

-- the turn of the opening
abbrev pub Turn : Type 0
Turn = TurnOf OpeningState

-- the run stops without records
abbrev pub stops : {S : Type 0} → S → RunError → TurnOf S
stops s e = record { records = []; state = s; next = stopped (refused e) }

-- the turn of a row, by the opening's next state
abbrev pub next_turn : ℕ → OpeningState → Row → Next → Turn
next_turn place s row (stays s') = record { records = row.records; state = s'; next = goes_on }
next_turn place s row (opens s') = record { records = row.records; state = shut s'; next = opened }
next_turn place s row (ends_with e) = record { records = row.records; state = shut s; next = stopped (ended e) }
next_turn place s row (refuses e) = record { records = row.records; state = shut s; next = stopped (refused (error_of place e)) }

abbrev pub row_turn : ℕ → OpeningState → Row → Turn
row_turn place s row = next_turn place s row row.next

-- by the verdict on the host key
abbrev pub judged_turn : ℕ → OpeningState → Event → Result Bool HandlerError → Asking Turn
judged_turn place s event (Ok true) = asked_on (row_turn place s) (open_row s event telling.Went)
judged_turn place s event (Ok false) = asked_on (row_turn place s) (open_row s event telling.No)
judged_turn place s event (Err e) = done (stops (shut s) (handler_error_of place e))

-- by what the row asks the gate
abbrev pub asked_turn : Hosts → ℕ → OpeningState → Event → Asks → Asking Turn
asked_turn hosts place s event asking.Nothing = asked_on (row_turn place s) (open_row s event telling.NotAsked)
asked_turn hosts place s event (asking.HostKey key) = judged_turn place s event (verdict hosts key)
asked_turn hosts place s event asking.Exchange = asked_on (row_turn place s) (open_row s event telling.Went)
asked_turn hosts place s event (asking.Banner text) = asked_on (row_turn place s) (open_row s event telling.Went)

-- by the event that the fields encode
abbrev pub event_turn : Hosts → ℕ → OpeningState → Result Event EventError → Asking Turn
event_turn hosts place s (Ok event) = asked_turn hosts place s event (asked_of s event)
event_turn hosts place s (Err reads.Bad) = done (stops s (errors.BadEvent place))
event_turn hosts place s (Err reads.NoMemory) = done (stops s errors.NoMemory)

-- the turn of an event, by its fields
unfoldable pub opening_turn : Hosts → Turns OpeningState
opening_turn hosts s frame = event_turn hosts frame.place s (event_of frame.kind frame.fields)

-- the opening with its settings, as a machine
abbrev pub opening_machine : Hosts → Settings → Machine OpeningState
opening_machine hosts settings = record { first = start settings; turn = opening_turn hosts }
