-- Over a whole run each channel has its account (RFC 4254, sections 5.2 and 5.3): the channels are the result of the
-- calls of the channel table that the rows of the run's events make, in order, and the packets of channels among all
-- records of the open session are those that these calls write. So what the channel table guarantees for every list of
-- calls is true of the run. The code keeps one table.
use Rattle.std.specs.Prelude.{◌≡◌, ℕ, Bool, true, false, List, [], ◌∷◌, ◌++◌, Option, Some, None, Result, Ok, Err}
use Rattle.sshc_wire.specs.declared.record.Record.{Record}
use Rattle.sshc_key.specs.Asking.{Answer}
use Rattle.sshc_auth_event.specs.declared.event.Event.{Event}
use Rattle.sshc_mux.specs.ChannelState.{channel_of}
use Rattle.sshc_mux.specs.ChannelAccount.{Account, Call, IsFront, Life, born, bytes_in, called, no_channels, ran, sent_with, table_after, taken}
use Rattle.sshc_client_packets.specs.HostKeyProof.{Accepts}
use Rattle.sshc_client_table.specs.Moves.{calls_in}
use Rattle.sshc_client_table.specs.SessionAccount.{channel_packets, said_packets}
use Rattle.sshc_client_table.specs.SessionState.{SessionState, is_open}
use Rattle.sshc_client_table.specs.SessionTable.{session_row}
use Rattle.sshc_client.specs.Follows.{all_moves, default_opinions}
use Rattle.sshc_run_reader.specs.declared.error.EventError.{EventError}
use Rattle.sshc_run_reader.specs.EventReading.{event_of}
use Rattle.sshc_run_reader.specs.Script.{Frame}
use Rattle.sshc_run_script.specs.Configured.{RunSettings}
use Rattle.sshc_run_script.specs.KnownHosts.{Hosts}
use Rattle.sshc_run_script.specs.Path.{StepOf}
use Rattle.sshc_run_script.specs.SessionPaths.{EachPath}

-- ---- one event

-- the calls of the channel table that the event's row makes; before the session is open there are none
abbrev pub row_calls : Bool → Accepts → SessionState → Event → List Call
row_calls false accepts s event = []
row_calls true accepts s event = calls_in (all_moves (session_row accepts (default_opinions s) s event)) s

abbrev pub calls_by : Accepts → SessionState → Result Event EventError → List Call
calls_by accepts s (Ok event) = row_calls (is_open s.opening.phase) accepts s event
calls_by accepts s (Err e) = []

abbrev pub calls_at : Accepts → SessionState → Frame → List Call
calls_at accepts s frame = calls_by accepts s (event_of frame.kind frame.fields)

-- the records of the open session
abbrev pub said_open : Bool → List Record → List Record
said_open true records = records
said_open false records = []

-- ---- over a run

-- the calls that the rows of these steps make, in order
abbrev pub calls_along : Accepts → List (StepOf SessionState) → List Call
calls_along accepts [] = []
calls_along accepts (x ∷ steps) = calls_at accepts x.before x.frame ++ calls_along accepts steps

-- the records of the open session among theirs, in order
abbrev pub said_along : List (StepOf SessionState) → List Record
said_along [] = []
said_along (x ∷ steps) = said_open (is_open x.before.opening.phase) x.turn.records ++ said_along steps

-- the calls are a life of the number n: one that makes the channel, and the life's own calls
pub record IsLife (calls : List Call) (n : ℕ) (l : Life n) : Type 0 where
  pub opener : Call
  pub first : l.last ≡ 0
  pub all : calls ≡ l.before ++ opener ∷ l.calls
  pub opens : (called opener (ran l.before (no_channels l.last)).table).table ≡ born n l

-- the session has the channel as its life ends, and the life has its account
pub record HasAccount (s : SessionState) (n : ℕ) (l : Life n) : Type 0 where
  pub end : channel_of n s.table.channels ≡ Some l.end
  pub account : Account n l

-- the calls hold a life of the number n that has ended: one that makes the channel, the life's own calls, and one after
-- which the number is free
pub record IsEndedLife (calls : List Call) (n : ℕ) (l : Life n) (last : Call) : Type 0 where
  pub opener : Call
  pub rest : List Call
  pub first : l.last ≡ 0
  pub all : calls ≡ l.before ++ opener ∷ (l.calls ++ last ∷ rest)
  pub opens : (called opener (ran l.before (no_channels l.last)).table).table ≡ born n l
  pub ends : channel_of n (called last (table_after n l)).table.channels ≡ None

pub record IsAccounted (s : SessionState) (calls : List Call) (output : List Record) : Type 0 where
  pub table : s.table ≡ (ran calls (no_channels 0)).table
  pub packets : channel_packets output ≡ said_packets (ran calls (no_channels 0)).output
  pub lives : (n : ℕ) (l : Life n) → IsLife calls n l → HasAccount s n l
  -- of a channel that has ended what was sent is a prefix of what was handed in
  pub ended : (n : ℕ) (l : Life n) (last : Call) → IsEndedLife calls n l last → IsFront (bytes_in (sent_with n l last)) (taken n l.calls)

-- along each path of the session its state is accounted for
abbrev pub AreAccounted : Hosts → Accepts → RunSettings → ℕ → List Answer → Option (List ℕ) → Type 0
AreAccounted hosts accepts settings max answers script = EachPath hosts accepts settings max answers script (λ steps s. IsAccounted s (calls_along accepts steps) (said_along steps))
