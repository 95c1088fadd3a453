-- What a session that was lent to a handler keeps of each channel that it had (RFC 4254, section 5), as facts on the
-- channel before and after. Bytes are taken with their kind and code. The code is whatever a handler does by the
-- session's methods.
use Rattle.std.specs.Prelude.{◌≡◌, ℕ, ◌+◌, Bool, true, false, List, [], ◌++◌, length, Some}
use Rattle.sshc_mux.specs.declared.chunk.Stream.{Stream}
use Rattle.sshc_mux.specs.ChannelState.{ChannelState, TableState, channel_of}
use Rattle.sshc_mux.specs.ChannelTable.Ends.{is_unasked}
use Rattle.sshc_mux.specs.ChannelAccount.{IsLegal, pending}
use Rattle.sshc_client_table.specs.SessionState.{SessionState, exchanging}
use Rattle.sshc_client_table.specs.Grown.{Grown}

-- Number, opener, ticket, recipient, packet size, confirmation and our window are the same. The bytes that wait are
-- those that waited, with some added at the end and some removed from the front; the peer's window has fallen by the
-- number of those removed, which is 0 while an exchange runs. An end that was asked for stays asked for.
pub record ChannelKeeps (running : Bool) (old new : ChannelState) : Type 0 where
  pub head : new.head ≡ old.head
  pub own_window : new.own_window ≡ old.own_window
  pub gone : List (Stream × ℕ)
  pub more : List (Stream × ℕ)
  pub waits : gone ++ pending new.flow.pending ≡ pending old.flow.pending ++ more
  pub window : length gone + new.flow.window ≡ old.flow.window
  pub quiet : running ≡ true → gone ≡ []
  pub eof : is_unasked old.flow.eof ≡ false → is_unasked new.flow.eof ≡ false
  pub close : is_unasked old.flow.close ≡ false → is_unasked new.flow.close ≡ false

-- the channel is still there, so kept
pub record IsKept (running : Bool) (n : ℕ) (old : ChannelState) (table : TableState) : Type 0 where
  pub new : ChannelState
  pub there : channel_of n table.channels ≡ Some new
  pub keeps : ChannelKeeps running old new

abbrev pub GrownSessionsKeepChannels : Type 0
GrownSessionsKeepChannels =
    (old new : SessionState) (n : ℕ) (c : ChannelState) → IsLegal old.table → Grown old new →
    channel_of n old.table.channels ≡ Some c → IsKept (exchanging old) n c new.table
