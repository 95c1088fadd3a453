-- Channels worked step by step, computed from the definitions.
use Rattle.std.proofs.Common.{◌≡◌, ℕ, true, false, [], ◌∷◌, Some, None, refl}
use Rattle.sshc_mux.specs.declared.chunk.Stream.TheVariants as Streams
use Rattle.sshc_mux.specs.declared.channel.Stage.TheVariants as Stages
use Rattle.sshc_mux.specs.ChannelState.{ChannelFlow, ChannelState, TableState}
use Rattle.sshc_mux.specs.Packets.{Piece, Eof, Close, Adjust}
use Rattle.sshc_mux.specs.ChannelTable.{data_turn, eof_turn, close_turn, grant_turn, flush_turn, received_turn, close_peer, unmoved}
use Rattle.sshc_mux.specs.ChannelAccount.{called, Confirm, Fail}
use Rattle.sshc_mux.specs.ChannelTable.Opens.{opened_by_user, reserved_by_server, confirmed, next_number, awaited}
use Rattle.sshc_mux.specs.ChannelTable.Sending.{flushed, cut}
use Rattle.sshc_mux.specs.ChannelTable.Windows.{raised}

-- a channel of ours that the peer confirmed as its number 5
abbrev opened : ℕ → ℕ → ChannelState
opened window packet = confirmed 5 window packet (opened_by_user 1 100 0 None)

-- window 4: of ten bytes four are sent, and six wait
ten : (data_turn Streams.Data (0 ∷ 1 ∷ 2 ∷ 3 ∷ 4 ∷ 5 ∷ 6 ∷ 7 ∷ 8 ∷ 9 ∷ []) false (opened 4 32768)).packets ≡ Piece Streams.Data (0 ∷ 1 ∷ 2 ∷ 3 ∷ []) ∷ []
unfolding flushed cut
ten = refl

abbrev with_flow : ChannelState → ChannelFlow → ChannelState
with_flow c f = record c { flow = f }

abbrev after_ten : ChannelState
after_ten = with_flow (opened 4 32768) (record (opened 4 32768).flow { window = 0; pending = record { stream = Streams.Data; bytes = 4 ∷ 5 ∷ 6 ∷ 7 ∷ 8 ∷ 9 ∷ [] } ∷ [] })

ten_left : (data_turn Streams.Data (0 ∷ 1 ∷ 2 ∷ 3 ∷ 4 ∷ 5 ∷ 6 ∷ 7 ∷ 8 ∷ 9 ∷ []) false (opened 4 32768)).channel ≡ after_ten
unfolding flushed cut
ten_left = refl

-- after a grant of 3 three are sent
three : (grant_turn 3 false after_ten).packets ≡ Piece Streams.Data (4 ∷ 5 ∷ 6 ∷ []) ∷ []
unfolding flushed cut
three = refl

abbrev after_three : ChannelState
after_three = with_flow (opened 4 32768) (record (opened 4 32768).flow { window = 0; pending = record { stream = Streams.Data; bytes = 7 ∷ 8 ∷ 9 ∷ [] } ∷ [] })

three_left : (grant_turn 3 false after_ten).channel ≡ after_three
unfolding flushed cut
three_left = refl

-- while an exchange runs, EOF waits after the bytes, and a grant sends nothing
eof_waits : eof_turn after_three ≡ record { channel = with_flow after_three (record after_three.flow { eof = Stages.Asked }); packets = [] }
unfolding flushed cut
eof_waits = refl

abbrev in_exchange : ChannelState
in_exchange = with_flow after_three (record after_three.flow { eof = Stages.Asked; window = 3 })

grant_waits : grant_turn 3 true (with_flow after_three (record after_three.flow { eof = Stages.Asked })) ≡ record { channel = in_exchange; packets = [] }
unfolding flushed cut
grant_waits = refl

-- then a flush sends the bytes, and EOF after them
flush_sends : (flush_turn in_exchange).packets ≡ Piece Streams.Data (7 ∷ 8 ∷ 9 ∷ []) ∷ Eof ∷ []
unfolding flushed cut
flush_sends = refl

-- a packet size of 3 cuts seven bytes into three pieces
seven : (data_turn Streams.Data (0 ∷ 1 ∷ 2 ∷ 3 ∷ 4 ∷ 5 ∷ 6 ∷ []) false (opened 100 3)).packets ≡ Piece Streams.Data (0 ∷ 1 ∷ 2 ∷ []) ∷ Piece Streams.Data (3 ∷ 4 ∷ 5 ∷ []) ∷ Piece Streams.Data (6 ∷ []) ∷ []
unfolding flushed cut
seven = refl

-- a packet size of 0 sends nothing, whatever is granted
no_size : (grant_turn 10 false (data_turn Streams.Data (97 ∷ []) false (opened 100 0)).channel).packets ≡ []
unfolding flushed cut
no_size = refl

-- a grant on the greatest window leaves it as it is
held : (raised 1 (opened 4294967295 100).flow).window ≡ 4294967295
held = refl

-- our window of 100 stays as it is at half, and is raised below half
half : (received_turn 50 100 (opened 4 100)).packets ≡ []
half = refl

below_half : (received_turn 1 100 (received_turn 50 100 (opened 4 100)).channel).packets ≡ Adjust 51 ∷ []
below_half = refl

-- data after EOF is ignored
data_after_eof : (data_turn Streams.Data (97 ∷ []) false (eof_turn (opened 4 100)).channel).packets ≡ []
unfolding flushed cut
data_after_eof = refl

eof_goes : (eof_turn (opened 4 100)).packets ≡ Eof ∷ []
unfolding flushed cut
eof_goes = refl

close_goes : (close_turn (opened 4 100)).packets ≡ Close ∷ []
unfolding flushed cut
close_goes = refl

abbrev with_closed : TableState
with_closed = record { channels = (close_turn (opened 4 100)).channel ∷ []; last = 1 }

-- our close is sent once, and the peer's close frees the number
close_once : close_peer 1 with_closed ≡ record { table = record { channels = []; last = 1 }; output = [] }
unfolding flushed cut
close_once = refl

abbrev reserved : TableState
reserved = record { channels = reserved_by_server 1 5 4 100 100 ∷ []; last = 1 }

-- an open of the peer's isn't an open of ours
not_ours : awaited 1 reserved ≡ None
not_ours = refl

confirm_reserved : called (Confirm 1 5 4 100) reserved ≡ unmoved reserved
confirm_reserved = refl

fail_reserved : called (Fail 1) reserved ≡ unmoved reserved
fail_reserved = refl

twice : awaited 1 (record { channels = opened 4 100 ∷ []; last = 1 }) ≡ None
twice = refl

-- the number after the last u32 is 0, and a number in the table is skipped
wraps : next_number (record { channels = opened 4 100 ∷ []; last = 4294967295 }) ≡ Some 0
unfolding next_number
wraps = refl

skips : next_number (record { channels = opened 4 100 ∷ []; last = 0 }) ≡ Some 2
unfolding next_number
skips = refl
