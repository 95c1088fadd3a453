-- The pieces of bytes that wait on a channel, one for each call whose bytes wait (RFC 4254, section 5.2). The code keeps
-- them as parts of blocks that may have other owners.
use Rattle.std.specs.Prelude.{ℕ, ◌<◌, List, [], ◌∷◌, length, map, Option, Some, None}
use Rattle.sshc_mux.specs.declared.chunk.Stream.{Stream}
use Rattle.sshc_mux.specs.ChannelState.{ChannelState, ChannelFlow, Waiting}
use Rattle.sshc_mux.specs.ChannelAccount.{pending}

abbrev pub bytes_of : Waiting → List ℕ
bytes_of w = w.bytes

abbrev pub pieces_of_flow : ChannelFlow → List (List ℕ)
pieces_of_flow f = map bytes_of f.pending

-- the pieces on a channel, in order; none on no channel
abbrev pub pieces_in : Option ChannelState → List (List ℕ)
pieces_in None = []
pieces_in (Some c) = pieces_of_flow c.flow

-- no piece is empty
abbrev pub AreFull : List (List ℕ) → Type 0
AreFull [] = Unit {0}
AreFull (p ∷ pieces) = (0 < length p) × AreFull pieces

-- a byte without its kind and code
abbrev pub unmarked : Stream × ℕ → ℕ
unmarked b = b.1

-- the bytes that wait on a channel by its account, without their kinds; none on no channel
abbrev pub bytes_waiting : Option ChannelState → List ℕ
bytes_waiting None = []
bytes_waiting (Some c) = map unmarked (pending c.flow.pending)
