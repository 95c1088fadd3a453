-- The room that is reserved for an answer.
use Rattle.std.specs.Prelude.{ℕ, ◌≤◌, IsSome, Option, Some, None, Box, Vec, vec_capacity}
use Rattle.std.specs.declared.alloc.Global.{Global}
use Rattle.sshc_agent_shared.specs.declared.room.Room.{Room}
use Rattle.sshc_agent_shared.specs.declared.room.Rooms.{Rooms}

-- room for the longest answer: a frame and its length
abbrev pub HasRoom : Option (Box (Vec ℕ Global) Global) → Type 0
HasRoom None = ⊥
HasRoom (Some buffer) = 262148 ≤ vec_capacity buffer.value

pub record IsMade (room : Room) : Type 0 where
  pub bytes : HasRoom room.bytes
  pub both : IsSome room.both

pub record AreMade (rooms : Rooms) : Type 0 where
  pub kept : IsMade rooms.kept
  pub told : IsMade rooms.told

-- both have a box
pub record HasBoxes (rooms : Rooms) : Type 0 where
  pub kept : IsSome rooms.kept.both
  pub told : IsSome rooms.told.both
