-- What one event of the session does: its records, the session afterwards, and whether the run continues. Before the
-- session is open it is the opening's turn, and then the row of the event, by a handler's default bodies. The code has
-- one session, and takes its records.
use Rattle.std.specs.Prelude.{ℕ, Bool, true, false, List, [], length, drop, Result, Ok, Err}
use Rattle.sshc_wire.specs.declared.record.Record.{Record}
use Rattle.sshc_key.specs.Asking.{Asking, done, asked_on}
use Rattle.sshc_auth_event.specs.declared.event.Event.{Event}
use Rattle.sshc_auth.specs.OpeningState.{OpeningState}
use Rattle.sshc_auth.specs.OpeningTable.{asked_of}
use Rattle.sshc_client_packets.specs.HostKeyProof.{Accepts}
use Rattle.sshc_client_table.specs.Moves.{Move, done as when_done}
use Rattle.sshc_client_table.specs.SessionRow.{Next, SessionRow, ends as row_ends, goes, refuses}
use Rattle.sshc_client_table.specs.SessionState.{SessionState, is_open}
use Rattle.sshc_client_table.specs.SessionTable.{session_row}
use Rattle.sshc_client_state.specs.Start.{new_session}
use Rattle.sshc_client.specs.Follows.{all_moves, default_opinions}
use Rattle.sshc_run_reader.specs.declared.error.EventError.{EventError}
use Rattle.sshc_run_reader.specs.declared.error.EventError.TheVariants as reads
use Rattle.sshc_run_reader.specs.EventReading.{event_of}
use Rattle.sshc_run_script.specs.declared.error.RunError.TheVariants as errors
use Rattle.sshc_run_script.specs.Configured.{RunSettings}
use Rattle.sshc_run_script.specs.KnownHosts.{Hosts}
use Rattle.sshc_run_script.specs.Machine.{Machine, Onward, TurnOf, Turns, ended, goes_on, refused, stopped}
use Rattle.sshc_run_script.specs.Turn.{asked_turn, error_of, stops}

abbrev pub SessionTurn : Type 0
SessionTurn = TurnOf SessionState

-- ---- before the session is open

-- a turn of the opening, seen in the session
abbrev pub in_session : SessionState → TurnOf OpeningState → SessionTurn
in_session s t = record { records = t.records; state = record s { opening = t.state }; next = t.next }

-- ---- in an open session

-- the session after its records were taken
abbrev pub emptied : SessionState → SessionState
emptied s = record s { records = [] }

abbrev pub onward : ℕ → Next → Onward
onward place goes = goes_on
onward place (row_ends e) = stopped (ended e)
onward place (refuses e) = stopped (refused (error_of place e))

-- the records of the moves, after those from before
abbrev pub said_by : List Move → SessionState → List Record
said_by moves s = drop (length s.records) (when_done moves s).records

-- the row's moves are done, and their records are added
abbrev pub row_turn : ℕ → SessionState → SessionRow → SessionTurn
row_turn place s row = record {
  records = said_by (all_moves row) s;
  state = emptied (when_done (all_moves row) s);
  next = onward place row.next;
}

-- ---- any event

-- by whether the session is open
abbrev pub step_turn : Bool → Hosts → Accepts → ℕ → SessionState → Event → Asking SessionTurn
step_turn false hosts accepts place s event = asked_on (in_session s) (asked_turn hosts place s.opening event (asked_of s.opening event))
step_turn true hosts accepts place s event = done (row_turn place s (session_row accepts (default_opinions s) s event))

-- by the event that the fields encode
abbrev pub read_turn : Hosts → Accepts → ℕ → SessionState → Result Event EventError → Asking SessionTurn
read_turn hosts accepts place s (Ok event) = step_turn (is_open s.opening.phase) hosts accepts place s event
read_turn hosts accepts place s (Err reads.Bad) = done (stops s (errors.BadEvent place))
read_turn hosts accepts place s (Err reads.NoMemory) = done (stops s errors.NoMemory)

-- the turn of a session's event
unfoldable pub session_turn : Hosts → Accepts → Turns SessionState
session_turn hosts accepts s frame = read_turn hosts accepts frame.place s (event_of frame.kind frame.fields)

-- the session with its settings, as a machine
abbrev pub session_machine : Hosts → Accepts → RunSettings → Machine SessionState
session_machine hosts accepts settings = record { first = new_session settings.session settings.opening; turn = session_turn hosts accepts }
