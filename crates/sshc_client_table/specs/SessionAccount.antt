-- The channels' packets among all records of a session are those that its calls of the channel table wrote (RFC 4254,
-- sections 5.2 and 5.3). Stated for any list of moves, so also for rows one after the other with whatever a handler did
-- between them.
use Rattle.std.specs.Prelude.{◌≡◌, ℕ, Bool, true, false, ◌&&◌, List, [], ◌∷◌, ◌++◌, if◌then◌else◌, nat_le, Some}
use Rattle.sshc_wire.specs.declared.record.Record.{Record}
use Rattle.sshc_wire.specs.declared.record.Record.TheVariants.{Payload}
use Rattle.sshc_wire.specs.MessageNumbers.{CHANNEL_WINDOW_ADJUST, CHANNEL_CLOSE}
use Rattle.sshc_mux.specs.ChannelState.{channel_of}
use Rattle.sshc_mux.specs.ChannelTable.{ChannelPacket}
use Rattle.sshc_mux.specs.ChannelAccount.{Account, Call, Life, born, called, may_send, no_channels, ran}
use Rattle.sshc_mux.specs.Packets.{packet_text}
use Rattle.sshc_client_table.specs.SessionState.{SessionState, exchanging}
use Rattle.sshc_client_table.specs.Moves.{Move, after, calls_in, calls_of, done}

-- 93 to 97: window adjust, data, extended data, EOF, close
abbrev pub is_of_channel : List ℕ → Bool
is_of_channel [] = false
is_of_channel (number ∷ body) = nat_le CHANNEL_WINDOW_ADJUST number && nat_le number CHANNEL_CLOSE

abbrev pub channel_packet : Record → List (List ℕ)
channel_packet (Payload packet) = if is_of_channel packet then packet ∷ [] else []
channel_packet output = []

-- the packets of channels among records
abbrev pub channel_packets : List Record → List (List ℕ)
channel_packets [] = []
channel_packets (output ∷ records) = channel_packet output ++ channel_packets records

-- what calls of the table wrote, as bytes
abbrev pub said_packets : List ChannelPacket → List (List ℕ)
said_packets [] = []
said_packets (s ∷ output) = packet_text s.recipient s.packet ∷ said_packets output

-- Whatever the moves, the table is the table after the calls among them, and the channels' packets are those that these
-- calls wrote.
pub record Accounted (moves : List Move) (s : SessionState) : Type 0 where
  pub table : (done moves s).table ≡ (ran (calls_in moves s) s.table).table
  pub packets :
      channel_packets (done moves s).records
      ≡ channel_packets s.records ++ said_packets (ran (calls_in moves s) s.table).output

abbrev pub ChannelsAreAccounted : Type 0
ChannelsAreAccounted = (moves : List Move) (s : SessionState) → Accounted moves s

-- a life of the number n whose calls are those among the moves: one that makes the channel, and the life's own
pub record Lives (moves : List Move) (s : SessionState) (n : ℕ) (l : Life n) : Type 0 where
  pub opener : Call
  pub empty : s.table ≡ no_channels l.last
  pub calls : calls_in moves s ≡ l.before ++ opener ∷ l.calls
  pub opens : (called opener (ran l.before (no_channels l.last)).table).table ≡ born n l

-- the session has the channel as it is at the end of its life, and the life has its account
pub record HasItsAccount (moves : List Move) (s : SessionState) (n : ℕ) (l : Life n) : Type 0 where
  pub end : channel_of n (done moves s).table.channels ≡ Some l.end
  pub account : Account n l

abbrev pub LivesHaveTheirAccounts : Type 0
LivesHaveTheirAccounts =
    (moves : List Move) (s : SessionState) (n : ℕ) (l : Life n) → Lives moves s n l → HasItsAccount moves s n l

-- no exchange runs after a move in which bytes may be sent
abbrev pub AllIdle : Bool → List Call → Type 0
AllIdle running [] = Unit {0}
AllIdle running (call ∷ calls) = (may_send call ≡ true → running ≡ false) × AllIdle running calls

abbrev pub SendsWhileIdle : Type 0
SendsWhileIdle = (m : Move) (s : SessionState) → AllIdle (exchanging (after m s)) (calls_of m s)
