-- The state of a session between two events, as plain data: its opening, its channels, the requests whose replies are
-- awaited, and the records that were not yet taken. The code keeps hash tables and an outbox besides.
use Rattle.std.specs.Prelude.{ℕ, Bool, true, false, not, ◌&&◌, List}
use Rattle.sshc_wire.specs.declared.record.Record.{Record}
use Rattle.sshc_transport.specs.declared.exchange.ExchangeFlag.{ExchangeFlag}
use Rattle.sshc_transport.specs.declared.exchange.ExchangeFlag.TheVariants.{Idle}
use Rattle.sshc_auth.specs.declared.opening.Phase.{Phase}
use Rattle.sshc_auth.specs.declared.opening.Phase.TheVariants.{Open}
use Rattle.sshc_auth.specs.OpeningState.{OpeningState}
use Rattle.sshc_mux.specs.ChannelState.{TableState}
use Rattle.sshc_client_table.specs.declared.reply_entry.ReplyEntry.{ReplyEntry}
use Rattle.sshc_client_table.specs.declared.life.Life.{Life}
use Rattle.sshc_client_table.specs.declared.life.Life.TheVariants.{Runs, Over}
use Rattle.sshc_client_table.specs.declared.settings.SessionSettings.{SessionSettings}

pub record SessionState : Type 0 where
  pub settings : SessionSettings
  pub opening : OpeningState  -- in an open session its flag says whose exchange runs
  pub table : TableState
  pub replies : List ReplyEntry  -- the requests that were written with a reply wanted, the oldest first
  pub keepalives : ℕ  -- how many keepalives in a row were sent since the peer was last heard
  pub window_target : ℕ  -- the window that the handler is passed
  pub records : List Record  -- the records that were not yet taken
  pub life : Life

-- our window of a new channel
abbrev pub own_window : SessionState → ℕ
own_window s = s.opening.settings.window_size

abbrev pub is_open : Phase → Bool
is_open Open = true
is_open phase = false

abbrev pub runs : Life → Bool
runs Runs = true
runs life = false

-- the session is open and hasn't ended
abbrev pub is_live : SessionState → Bool
is_live s = is_open s.opening.phase && runs s.life

-- no step has ended it yet, though the user may have disconnected
abbrev pub stands : Life → Bool
stands Over = false
stands life = true

-- records may still be reported in an open session
abbrev pub may_tell : SessionState → Bool
may_tell s = is_open s.opening.phase && stands s.life

-- it isn't open yet and hasn't ended
abbrev pub opens_later : SessionState → Bool
opens_later s = not (is_open s.opening.phase) && runs s.life

abbrev pub is_running : ExchangeFlag → Bool
is_running Idle = false
is_running flag = true

-- an exchange runs
abbrev pub exchanging : SessionState → Bool
exchanging s = is_running s.opening.flag
