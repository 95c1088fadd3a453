-- The state of the channels of a connection between calls, as plain data (RFC 4254, section 5).
-- No field shows how bytes are stored; the code keeps queues and places in them.
use Rattle.std.specs.Prelude.{ℕ, Bool, List, [], ◌∷◌, Option, Some, None, if◌then◌else◌, ◌==◌}
use Rattle.sshc_mux.specs.declared.chunk.Stream.{Stream}
use Rattle.sshc_mux.specs.declared.channel.Opener.{Opener}
use Rattle.sshc_mux.specs.declared.channel.Stage.{Stage}

-- the bytes of one call that wait, with their kind and code
pub record Waiting : Type 0 where
  pub stream : Stream
  pub bytes : List ℕ

-- whose channel it is, and to whom it sends
pub record Head : Type 0 where
  pub number : ℕ
  pub opener : Opener
  pub established : Bool
  pub recipient : ℕ  -- the peer's number
  pub packet_size : ℕ  -- the most bytes that a piece may hold

-- what goes to the peer
pub record ChannelFlow : Type 0 where
  pub window : ℕ  -- how many bytes may still be sent
  pub pending : List Waiting  -- what waits, one entry for each call
  pub eof : Stage
  pub close : Stage

pub record ChannelState : Type 0 where
  pub head : Head
  pub own_window : ℕ  -- how many bytes the peer may still send
  pub flow : ChannelFlow

pub record TableState : Type 0 where
  pub channels : List ChannelState  -- in the order of their making
  pub last : ℕ  -- the last number that was assigned

-- the channel of this number
abbrev pub channel_of : ℕ → List ChannelState → Option ChannelState
channel_of n [] = None
channel_of n (c ∷ cs) = if c.head.number == n then Some c else channel_of n cs

-- the channels, with this one in the place of the one with this number
abbrev pub with_channel : ℕ → ChannelState → List ChannelState → List ChannelState
with_channel n new [] = []
with_channel n new (c ∷ cs) = if c.head.number == n then new ∷ cs else c ∷ with_channel n new cs

-- the channels except the one with this number
abbrev pub without : ℕ → List ChannelState → List ChannelState
without n [] = []
without n (c ∷ cs) = if c.head.number == n then cs else c ∷ without n cs
