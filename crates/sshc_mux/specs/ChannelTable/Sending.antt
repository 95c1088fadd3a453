-- Sending: what a channel writes of the bytes that wait, and its EOF and close after them (RFC 4254, sections 5.2 and
-- 5.3).
-- By the front that the window has room for, cut call by call; the code takes pieces from a queue.
use Rattle.std.specs.Prelude.{ℕ, zero, suc, ◌+◌, ◌-◌, min, Bool, true, false, not, ◌&&◌, List, [], ◌∷◌, ◌++◌, length, take, drop, if◌then◌else◌, ◌==◌, nat_lt, nat_le}
use Rattle.sshc_mux.specs.declared.chunk.Stream.{Stream}
use Rattle.sshc_mux.specs.declared.channel.Stage.{Stage}
use Rattle.sshc_mux.specs.declared.channel.Stage.TheVariants as Stages
use Rattle.sshc_mux.specs.ChannelState.{Head, ChannelFlow, Waiting}
use Rattle.sshc_mux.specs.Packets.{Packet, Piece, Eof, Close}

-- a channel's flow after what it did, and the packets that it wrote
pub record FlowTurn : Type 0 where
  pub flow : ChannelFlow
  pub packets : List Packet

-- nothing changes and nothing is written
abbrev pub still : ChannelFlow → FlowTurn
still f = record { flow = f; packets = [] }

-- at most so many pieces of one call's bytes, each as long as the packet size allows
abbrev pub cut_up_to : ℕ → ℕ → List ℕ → List (List ℕ)
cut_up_to zero size bytes = []
cut_up_to (suc count) size [] = []
cut_up_to (suc count) size (b ∷ bytes) = take size (b ∷ bytes) ∷ cut_up_to count size (drop size (b ∷ bytes))

-- the pieces of one call's bytes
unfoldable pub cut : ℕ → List ℕ → List (List ℕ)
cut size bytes = cut_up_to (length bytes) size bytes

abbrev pub pieces_of : Stream → List (List ℕ) → List Packet
pieces_of stream [] = []
pieces_of stream (piece ∷ pieces) = Piece stream piece ∷ pieces_of stream pieces

-- how many bytes wait
abbrev pub count_of : List Waiting → ℕ
count_of [] = 0
count_of (w ∷ ws) = length w.bytes + count_of ws

-- what is sent of what waits if there is room for so many bytes
abbrev pub sent_of : ℕ → ℕ → List Waiting → List Packet
sent_of size room [] = []
sent_of size room (w ∷ ws) =
    pieces_of w.stream (cut size (take room w.bytes)) ++ sent_of size (room - length w.bytes) ws

-- what still waits afterwards
abbrev pub left_of : ℕ → List Waiting → List Waiting
left_of room [] = []
left_of room (w ∷ ws) =
    if nat_le (length w.bytes) room then left_of (room - length w.bytes) ws
    else record { stream = w.stream; bytes = drop room w.bytes } ∷ ws

-- bytes are sent on an established channel while no exchange runs and the packet size isn't 0
abbrev pub room_of : Bool → Head → ChannelFlow → ℕ
room_of exchanging h f = if h.established && not exchanging && nat_lt 0 h.packet_size then f.window else 0

-- the flow without the bytes that it sends
abbrev pub emptied : ℕ → ChannelFlow → ChannelFlow
emptied room f = record f { pending = left_of room f.pending; window = f.window - min room (count_of f.pending) }

-- EOF and close wait until the channel is established and no bytes wait
abbrev pub may_end : Head → ChannelFlow → Bool
may_end h f = h.established && length f.pending == 0

abbrev pub is_due : Stage → Bool
is_due Stages.Unasked = false
is_due Stages.Asked = true
is_due Stages.Sent = false

abbrev pub done : Stage → Stage
done Stages.Unasked = Stages.Unasked
done Stages.Asked = Stages.Sent
done Stages.Sent = Stages.Sent

-- EOF first, then our close
abbrev pub due_of : ChannelFlow → List Packet
due_of f = (if is_due f.eof then Eof ∷ [] else []) ++ (if is_due f.close then Close ∷ [] else [])

abbrev pub ends_of : Head → ChannelFlow → List Packet
ends_of h f = if may_end h f then due_of f else []

abbrev pub ended_if : Bool → ChannelFlow → ChannelFlow
ended_if may f = record f { eof = if may then done f.eof else f.eof; close = if may then done f.close else f.close }

abbrev pub ended : Head → ChannelFlow → ChannelFlow
ended h f = ended_if (may_end h f) f

-- bytes, then EOF and close if they are due
unfoldable pub flushed : Bool → Head → ChannelFlow → FlowTurn
flushed exchanging h f = record {
  flow = ended h (emptied (room_of exchanging h f) f);
  packets = sent_of h.packet_size (room_of exchanging h f) f.pending ++ ends_of h (emptied (room_of exchanging h f) f);
}
