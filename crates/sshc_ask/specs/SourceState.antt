-- The effect of reading from a source and writing to a sink: plain data of their states before and after, and the bytes
-- that moved.
use Rattle.std.specs.Prelude.{◌≡◌, ◌+◌, ◌^◌, ◌<◌, ◌≤◌, ◌⊎◌, ℕ, List, ◌++◌, length, Option, Result, Ok, Err, Vec}
use Rattle.std.specs.declared.alloc.Global.{Global}
use Rattle.sshc_wire.specs.Contents.{append, prepend, IsAtEnd, WroteFront}
use Rattle.sshc_wire.specs.Faults.{Rose}
use Rattle.sshc_wire.specs.Wire.{string_text, u32_text}
use Rattle.sshc_key.specs.declared.error.Error.{Error}
use Rattle.sshc_key.specs.declared.error.Error.TheVariants.{AgentProtocolError, NoMemory, ReadFault, UnexpectedEnd, WriteFault}
use Rattle.sshc_key.specs.AgentNumbers.{MAX_AGENT_FRAME_LEN}

pub record SourceState : Type 0 where
  -- the remaining bytes, if contracts see them
  pub left : Option (List ℕ)
  pub reads : ℕ
  pub faults : ℕ

abbrev pub source_state : Option (List ℕ) → ℕ → ℕ → SourceState
source_state left reads faults = record { left = left; reads = reads; faults = faults }

-- these bytes were taken; each read but the last moved a byte
pub record Takes (given : List ℕ) (before after : SourceState) : Type 0 where
  pub left : before.left ≡ prepend given after.left
  pub reads : after.reads ≤ before.reads + length given + 1

-- the same if no read failed and each read moved a byte
pub record TakesWhole (given : List ℕ) (before after : SourceState) : Type 0 where
  pub left : before.left ≡ prepend given after.left
  pub reads : after.reads ≤ before.reads + length given
  pub faults : after.faults ≡ before.faults

-- why reading stopped
abbrev pub StopsBy : Error → SourceState → SourceState → Type 0
StopsBy ReadFault before after = Rose before.faults after.faults
StopsBy UnexpectedEnd before after = (after.faults ≡ before.faults) × IsAtEnd after.left
StopsBy NoMemory before after = after.faults ≡ before.faults
StopsBy e before after = ⊥

-- reading stopped after fewer than `count` bytes
abbrev pub StopsBefore : ℕ → Error → SourceState → SourceState → Type 0
StopsBefore count e before after = (given : List ℕ) × (length given < count) × Takes given before after × StopsBy e before after

-- `count` bytes are read
abbrev pub ReadsPart : ℕ → SourceState → SourceState → Result (Vec ℕ Global) Error → Type 0
ReadsPart count before after (Ok v) = (length v.items ≡ count) × TakesWhole v.items before after
ReadsPart count before after (Err e) = StopsBefore count e before after

-- a length is read
abbrev pub ReadsLength : SourceState → SourceState → Result ℕ Error → Type 0
ReadsLength before after (Ok n) = TakesWhole (u32_text n) before after
ReadsLength before after (Err e) = StopsBefore 4 e before after

-- fewer bytes than an answer has: its length is cut, or what follows it is
abbrev pub IsCut : List ℕ → Type 0
IsCut given = (length given < 4) ⊎ ((n : ℕ) × (part : List ℕ) × (given ≡ u32_text n ++ part) × (n ≤ MAX_AGENT_FRAME_LEN) × (length part < n))

-- a length above the limit was read, and nothing after it
abbrev pub ReadsOversize : Error → SourceState → SourceState → Type 0
ReadsOversize e before after = (n : ℕ) × ((MAX_AGENT_FRAME_LEN < n) × (n < 2 ^ 32)) × (e ≡ AgentProtocolError) × TakesWhole (u32_text n) before after

-- reading stopped inside an answer
abbrev pub StopsInside : Error → SourceState → SourceState → Type 0
StopsInside e before after = (given : List ℕ) × IsCut given × Takes given before after × StopsBy e before after

-- a whole answer is read, and no byte after it
abbrev pub ReadsAnswer : SourceState → SourceState → Result (Vec ℕ Global) Error → Type 0
ReadsAnswer before after (Ok v) = (length v.items ≤ MAX_AGENT_FRAME_LEN) × TakesWhole (string_text v.items) before after
ReadsAnswer before after (Err e) = ReadsOversize e before after ⊎ StopsInside e before after

-- ---- writing

pub record SinkState : Type 0 where
  -- the bytes that it holds, if contracts see them
  pub held : Option (List ℕ)
  pub writes : ℕ
  pub faults : ℕ

abbrev pub sink_state : Option (List ℕ) → ℕ → ℕ → SinkState
sink_state held writes faults = record { held = held; writes = writes; faults = faults }

-- why writing stopped
abbrev pub StopsWriting : Error → SinkState → SinkState → Type 0
StopsWriting WriteFault before after = Rose before.faults after.faults
StopsWriting NoMemory before after = after.faults ≡ before.faults
StopsWriting e before after = ⊥

-- a frame is written whole, or a prefix of it
abbrev pub WritesFrame : List ℕ → SinkState → SinkState → Result (Unit {0}) Error → Type 0
WritesFrame frame before after (Ok x) = (after.held ≡ append before.held frame) × (after.faults ≡ before.faults)
WritesFrame frame before after (Err e) = WroteFront before.held after.held frame × StopsWriting e before after
