-- Over a whole run the server's replies answer our global requests in the order in which these were written (RFC 4254,
-- section 4). Stated of the session's events among all, with the answers of the session's own calls, and of each state
-- that a run comes to, with the requests that its rows wrote; the code keeps a queue.
use Rattle.std.specs.Prelude.{◌≡◌, ℕ, Bool, true, false, List, [], ◌∷◌, ◌++◌, Option, Result, Ok, Err}
use Rattle.sshc_key.specs.Asking.{Answer}
use Rattle.sshc_auth_event.specs.declared.event.Event.{Event}
use Rattle.sshc_client_packets.specs.HostKeyProof.{Accepts}
use Rattle.sshc_client_table.specs.declared.reply_entry.ReplyEntry.{ReplyEntry}
use Rattle.sshc_client_table.specs.ReplyQueue.{asked_in}
use Rattle.sshc_client_table.specs.SessionState.{SessionState, is_open}
use Rattle.sshc_client_table.specs.SessionTable.{session_row}
use Rattle.sshc_client.specs.Follows.{all_moves, default_opinions}
use Rattle.sshc_run_reader.specs.declared.error.EventError.{EventError}
use Rattle.sshc_run_reader.specs.EventReading.{event_of}
use Rattle.sshc_run_reader.specs.Script.{Frame}
use Rattle.sshc_run_script.specs.Configured.{RunSettings}
use Rattle.sshc_run_script.specs.KnownHosts.{Hosts}
use Rattle.sshc_run_script.specs.Path.{StepOf}
use Rattle.sshc_run_script.specs.SessionPaths.{EachPath}

-- ---- the requests of one event

-- before the session is open none is written
abbrev pub requests_in : Bool → Accepts → SessionState → Event → List ReplyEntry
requests_in false accepts s event = []
requests_in true accepts s event = asked_in (all_moves (session_row accepts (default_opinions s) s event)) s

abbrev pub requests_of : Accepts → SessionState → Result Event EventError → List ReplyEntry
requests_of accepts s (Ok event) = requests_in (is_open s.opening.phase) accepts s event
requests_of accepts s (Err e) = []

-- the requests that the event's row writes, with an answer wanted
abbrev pub requests_at : Accepts → SessionState → Frame → List ReplyEntry
requests_at accepts s frame = requests_of accepts s (event_of frame.kind frame.fields)

-- ---- over a run

-- the requests that the rows of these steps write, in order
abbrev pub requests_along : Accepts → List (StepOf SessionState) → List ReplyEntry
requests_along accepts [] = []
requests_along accepts (x ∷ steps) = requests_at accepts x.before x.frame ++ requests_along accepts steps

-- along each path of the session the requests that were answered are the first of those written, and those that wait
-- are the others
abbrev pub AreInOrder : Hosts → Accepts → RunSettings → ℕ → List Answer → Option (List ℕ) → Type 0
AreInOrder hosts accepts settings max answers script =
    EachPath hosts accepts settings max answers script (λ steps s. (answered : List ReplyEntry) × (requests_along accepts steps ≡ answered ++ s.replies))
