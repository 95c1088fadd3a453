-- What a channel takes to send, and its ends (RFC 4254, sections 5.2 and 5.3).
use Rattle.std.specs.Prelude.{ℕ, Bool, true, false, not, ◌&&◌, List, [], ◌∷◌, ◌++◌, length, if◌then◌else◌, ◌==◌}
use Rattle.sshc_mux.specs.declared.chunk.Stream.{Stream}
use Rattle.sshc_mux.specs.declared.channel.Stage.{Stage}
use Rattle.sshc_mux.specs.declared.channel.Stage.TheVariants as Stages
use Rattle.sshc_mux.specs.ChannelState.{Head, ChannelFlow, Waiting}
use Rattle.sshc_mux.specs.Packets.{Packet, Close}
use Rattle.sshc_mux.specs.ChannelTable.Sending.{FlowTurn, still, flushed}

abbrev pub is_unasked : Stage → Bool
is_unasked Stages.Unasked = true
is_unasked Stages.Asked = false
is_unasked Stages.Sent = false

abbrev pub is_sent : Stage → Bool
is_sent Stages.Unasked = false
is_sent Stages.Asked = false
is_sent Stages.Sent = true

-- asked for, once
abbrev pub asked : Stage → Stage
asked Stages.Unasked = Stages.Asked
asked Stages.Asked = Stages.Asked
asked Stages.Sent = Stages.Sent

-- bytes are taken if neither EOF nor our close was asked for
abbrev pub takes : ChannelFlow → Bool
takes f = is_unasked f.eof && is_unasked f.close

abbrev pub with_pending : Stream → List ℕ → ChannelFlow → ChannelFlow
with_pending stream bytes f = record f { pending = f.pending ++ record { stream = stream; bytes = bytes } ∷ [] }

-- the bytes of a call as an entry that waits; no entry for no bytes
abbrev pub waiting_of : Stream → List ℕ → List Waiting
waiting_of stream [] = []
waiting_of stream (b ∷ bytes) = record { stream = stream; bytes = b ∷ bytes } ∷ []

-- bytes wait, and what may be sent is sent
abbrev pub flush_with : Stream → List ℕ → Bool → Head → ChannelFlow → FlowTurn
flush_with stream bytes exchanging h f = flushed exchanging h (with_pending stream bytes f)

-- bytes of ours; no bytes have no effect
abbrev pub data_flow : Stream → List ℕ → Bool → Head → ChannelFlow → FlowTurn
data_flow stream bytes exchanging h f =
    if takes f && not (length bytes == 0) then flush_with stream bytes exchanging h f else still f

-- EOF asked for after our close was sent is ignored
abbrev pub with_eof : ChannelFlow → ChannelFlow
with_eof f = record f { eof = if is_sent f.close then f.eof else asked f.eof }

abbrev pub with_close : ChannelFlow → ChannelFlow
with_close f = record f { close = asked f.close }

-- asking for EOF or close sends no bytes; the end itself is sent if no bytes wait
abbrev pub eof_flow : Head → ChannelFlow → FlowTurn
eof_flow h f = flushed true h (with_eof f)

abbrev pub close_flow : Head → ChannelFlow → FlowTurn
close_flow h f = flushed true h (with_close f)

-- the peer's close is answered by ours, unless ours was sent
abbrev pub answer_of : ChannelFlow → List Packet
answer_of f = if is_sent f.close then [] else Close ∷ []
