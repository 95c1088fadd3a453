-- Over a whole run an open of ours is answered while it waits for its answer, with its own ticket, and then waits no
-- more until another open takes its number (RFC 4254, section 5.1). Stated of each move of each event's row; with the
-- count of OpenCounts an open is answered at most once.
use Rattle.std.specs.Prelude.{◌≡◌, ◌⊎◌, ℕ, Bool, true, false, List, [], ◌∷◌, ◌++◌, Option, None, Result, Ok, Err}
use Rattle.std.specs.List.{AllByRecursion}
use Rattle.sshc_key.specs.Asking.{Answer}
use Rattle.sshc_auth_event.specs.declared.event.Event.{Event}
use Rattle.sshc_mux.specs.ChannelTable.Opens.{awaited}
use Rattle.sshc_client_packets.specs.HostKeyProof.{Accepts}
use Rattle.sshc_client_table.specs.Moves.{Move, after, deed_of, done}
use Rattle.sshc_client_table.specs.OpensOnce.{AnswersOne, NoOpenAnswer, call_opens}
use Rattle.sshc_client_table.specs.SessionState.{SessionState, is_open}
use Rattle.sshc_client_table.specs.SessionTable.{session_row}
use Rattle.sshc_client.specs.Follows.{all_moves, default_opinions}
use Rattle.sshc_run_reader.specs.declared.error.EventError.{EventError}
use Rattle.sshc_run_reader.specs.EventReading.{event_of}
use Rattle.sshc_run_script.specs.Configured.{RunSettings}
use Rattle.sshc_run_script.specs.KnownHosts.{Hosts}
use Rattle.sshc_run_script.specs.Path.{StepOf}
use Rattle.sshc_run_script.specs.SessionPaths.{EachPath}

-- the moves of the event's row; before the session is open there are none
abbrev pub row_moves : Bool → Accepts → SessionState → Event → List Move
row_moves false accepts s event = []
row_moves true accepts s event = all_moves (session_row accepts (default_opinions s) s event)

abbrev pub moves_by : Accepts → SessionState → Result Event EventError → List Move
moves_by accepts s (Ok event) = row_moves (is_open s.opening.phase) accepts s event
moves_by accepts s (Err e) = []

-- a move answers no open of ours, or one that waits, with its own ticket; if none waits under a number, none does after
-- a move that opens none there
pub record AnswersOnce (m : Move) (s : SessionState) : Type 0 where
  pub waits : AllByRecursion NoOpenAnswer (deed_of m s).says ⊎ AnswersOne s (after m s) (deed_of m s).says
  pub stays : (n : ℕ) → awaited n s.table ≡ None → call_opens n (deed_of m s).call s.table ≡ false → awaited n (after m s).table ≡ None

-- each move of the step's row answers opens in this way, after the moves before it
abbrev pub AnswersOpens : Accepts → StepOf SessionState → Type 0
AnswersOpens accepts x =
    (front : List Move) (m : Move) (back : List Move) → moves_by accepts x.before (event_of x.frame.kind x.frame.fields) ≡ front ++ m ∷ back → AnswersOnce m (done front x.before)

-- along each path of the session
abbrev pub OpensAreAnswered : Hosts → Accepts → RunSettings → ℕ → List Answer → Option (List ℕ) → Type 0
OpensAreAnswered hosts accepts settings max answers script = EachPath hosts accepts settings max answers script (λ steps s. AllByRecursion (AnswersOpens accepts) steps)
