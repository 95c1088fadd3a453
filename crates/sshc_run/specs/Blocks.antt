-- A script of a seed and a number of blocks. Each block is one of eight, by what is drawn.
use Rattle.std.specs.Prelude.{ℕ, zero, suc, ◌+◌, true, List, [], ◌∷◌, ◌++◌, get_or, replicate}
use Rattle.sshc_wire.specs.Wire.{bool_text, string_text, u32_text}
use Rattle.sshc_run.specs.declared.blocks.BlockKind.{BlockKind}
use Rattle.sshc_run.specs.declared.blocks.BlockKind.TheVariants as kinds
use Rattle.sshc_run.specs.Draws.{drawn, next_number}
use Rattle.sshc_run.specs.Events.{Script, Timed, timed, with_events}
use Rattle.sshc_run.specs.Login.{beginning, exchanged}

-- the block of the number that is drawn, of eight
abbrev pub kind_of : ℕ → BlockKind
kind_of d = get_or (kinds.SentData ∷ kinds.ServerData ∷ kinds.Window ∷ kinds.Keepalive ∷ kinds.Forward ∷ kinds.Listing ∷ kinds.Rekey ∷ kinds.Ignored ∷ []) d kinds.Ignored

-- a block: its events, and the state of the generator after it
pub record Block : Type 0 where
  pub events : List Timed
  pub number : ℕ

abbrev pub block : ℕ → List Timed → Block
block number events = record { events = events; number = number }

-- n bytes of the value n, as many as are drawn, at least one
abbrev pub alike : ℕ → List ℕ
alike x = replicate (1 + drawn 200 x) (1 + drawn 200 x)

-- the events of a block at this moment, by this state of the generator
unfoldable pub block_of : BlockKind → ℕ → ℕ → Block
-- the user sends bytes on channel 1
block_of kinds.SentData k x = block (next_number x) (timed k 0x21 (u32_text 1 ++ 0 ∷ string_text (alike (next_number x))) ∷ [])
-- CHANNEL_DATA of the server (RFC 4254, section 5.2)
block_of kinds.ServerData k x = block (next_number x) (timed k 0x03 (94 ∷ u32_text 1 ++ string_text (alike (next_number x))) ∷ [])
-- CHANNEL_WINDOW_ADJUST of the server
block_of kinds.Window k x = block (next_number x) (timed k 0x03 (93 ∷ u32_text 1 ++ u32_text (drawn 1000 (next_number x))) ∷ [])
-- a keepalive that wants a reply, and REQUEST_FAILURE as it
block_of kinds.Keepalive k x = block x (timed k 0x27 (bool_text true) ∷ timed k 0x03 (82 ∷ []) ∷ [])
-- the user asks for a forward of a port that the server chooses, and the server replies with the port
block_of kinds.Forward k x = block (next_number x)
    (timed k 0x1b (u32_text (2 + k) ++ string_text [] ++ u32_text 0) ∷ timed k 0x03 (81 ∷ u32_text (1024 + drawn 1000 (next_number x))) ∷ [])
-- connection 1 of the agent asks for a listing
block_of kinds.Listing k x = block x (timed k 0x40 (u32_text 1 ++ u32_text 1 ++ 11 ∷ []) ∷ [])
-- the server exchanges keys again
block_of kinds.Rekey k x = block x (exchanged k)
-- IGNORE
block_of kinds.Ignored k x = block x (timed k 0x03 (2 ∷ []) ∷ [])

-- a script so far, and the state of its generator
pub record Drawing : Type 0 where
  pub script : Script
  pub number : ℕ

-- with a block after it
abbrev pub adds : Block → Drawing → Drawing
adds b d = record { script = with_events b.events d.script; number = b.number }

-- a number is drawn, and its block is appended
abbrev pub with_block : ℕ → Drawing → Drawing
with_block k d = adds (block_of (kind_of (drawn 8 (next_number d.number))) k (next_number d.number)) d

-- the script with so many blocks; block k is at moment k, from 1
unfoldable pub drawing : ℕ → ℕ → Drawing
drawing seed zero = record { script = beginning; number = seed }
drawing seed (suc k) = with_block (suc k) (drawing seed k)

abbrev pub generated : ℕ → ℕ → Script
generated seed count = (drawing seed count).script
