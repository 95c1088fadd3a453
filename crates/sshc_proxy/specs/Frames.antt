-- Frames of the agent's protocol on a stream (draft-miller-ssh-agent, section 3): a length in four bytes, and so many
-- bytes.
-- The definitions are about the bytes that a call moved; the code reads a length, and then into a buffer.
use Rattle.std.specs.Prelude.{◌≡◌, ◌≢◌, ◌^◌, ◌<◌, ◌≤◌, ℕ, Bool, true, false, List, [], ◌++◌, length, Option, Some, None, Result, Ok, Err}
use Rattle.sshc_wire.specs.declared.source.Failed.{Failed}
use Rattle.sshc_wire.specs.declared.source.Failed.TheVariants as failures
use Rattle.sshc_wire.specs.Contents.{IsAtEnd, append, prepend}
use Rattle.sshc_wire.specs.Faults.{Rose}
use Rattle.sshc_wire.specs.Wire.{string_text, u32_text}
use Rattle.sshc_key.specs.AgentNumbers.{MAX_AGENT_FRAME_LEN}
use Rattle.sshc_ask.specs.SourceState.{IsCut}
use Rattle.sshc_proxy.specs.declared.broken.Broken.{Broken}
use Rattle.sshc_proxy.specs.declared.broken.Broken.TheVariants as broken

-- ---- streams

-- what contracts see of a stream: the bytes that it has left and those that it holds, where they are known, and how
-- many reads and writes failed
pub record Stream : Type 0 where
  pub left : Option (List ℕ)
  pub held : Option (List ℕ)
  pub read_faults : ℕ
  pub write_faults : ℕ

abbrev pub stream : Option (List ℕ) → Option (List ℕ) → ℕ → ℕ → Stream
stream left held read_faults write_faults = record { left = left; held = held; read_faults = read_faults; write_faults = write_faults }

-- these bytes were read, and nothing else changed
pub record IsRead (given : List ℕ) (before after : Stream) : Type 0 where
  pub left : before.left ≡ prepend given after.left
  pub held : after.held ≡ before.held
  pub read_faults : after.read_faults ≡ before.read_faults
  pub write_faults : after.write_faults ≡ before.write_faults

-- these bytes were read, and then a read failed
pub record IsReadFault (given : List ℕ) (before after : Stream) : Type 0 where
  pub left : before.left ≡ prepend given after.left
  pub held : after.held ≡ before.held
  pub read_faults : Rose before.read_faults after.read_faults
  pub write_faults : after.write_faults ≡ before.write_faults

-- these bytes were written, and nothing else changed
pub record IsWritten (given : List ℕ) (before after : Stream) : Type 0 where
  pub left : after.left ≡ before.left
  pub held : after.held ≡ append before.held given
  pub read_faults : after.read_faults ≡ before.read_faults
  pub write_faults : after.write_faults ≡ before.write_faults

-- these bytes were written, and then a write failed
pub record IsWriteFault (given : List ℕ) (before after : Stream) : Type 0 where
  pub left : after.left ≡ before.left
  pub held : after.held ≡ append before.held given
  pub read_faults : after.read_faults ≡ before.read_faults
  pub write_faults : Rose before.write_faults after.write_faults

-- ---- reading

-- a length that is above the limit
abbrev pub IsTooLong : ℕ → Type 0
IsTooLong n = (MAX_AGENT_FRAME_LEN < n) × (n < 2 ^ 32)

-- why no whole frame was read: never a byte behind a length above the limit
abbrev pub Breaks : Broken → Stream → Stream → Type 0
Breaks broken.TooLong before after = (n : ℕ) × IsTooLong n × IsRead (u32_text n) before after
Breaks broken.UnexpectedEnd before after = (given : List ℕ) × IsCut given × (given ≢ []) × IsRead given before after × IsAtEnd after.left
Breaks broken.Fault before after = (given : List ℕ) × IsCut given × IsReadFault given before after
Breaks broken.NoMemory before after = (given : List ℕ) × IsCut given × IsRead given before after

-- a frame was read, without its length; or there was none, since the bytes had ended before its first
abbrev pub ReadsFrame : List ℕ → Stream → Stream → Result Bool Broken → Type 0
ReadsFrame frame before after (Ok true) = (length frame ≤ MAX_AGENT_FRAME_LEN) × IsRead (string_text frame) before after
ReadsFrame frame before after (Ok false) = IsRead [] before after × IsAtEnd after.left
ReadsFrame frame before after (Err e) = Breaks e before after

-- the number in the bytes of a length: none in no bytes, which are the end; fewer than four bytes are cut
abbrev pub LengthIn : List ℕ → Result (Option ℕ) Broken → Type 0
LengthIn bytes (Ok (Some n)) = (n ≤ MAX_AGENT_FRAME_LEN) × (bytes ≡ u32_text n)
LengthIn bytes (Ok None) = bytes ≡ []
LengthIn bytes (Err broken.TooLong) = (n : ℕ) × IsTooLong n × (bytes ≡ u32_text n)
LengthIn bytes (Err broken.UnexpectedEnd) = (length bytes < 4) × (bytes ≢ [])
LengthIn bytes (Err e) = ⊥

-- a frame's length was read
abbrev pub ReadsLength : Stream → Stream → Result (Option ℕ) Broken → Type 0
ReadsLength before after (Ok (Some n)) = (n ≤ MAX_AGENT_FRAME_LEN) × IsRead (u32_text n) before after
ReadsLength before after (Ok None) = IsRead [] before after × IsAtEnd after.left
ReadsLength before after (Err e) = Breaks e before after

-- fewer than `count` bytes were read
abbrev pub StopsShort : ℕ → Broken → Stream → Stream → Type 0
StopsShort count broken.TooLong before after = ⊥
StopsShort count broken.UnexpectedEnd before after = (given : List ℕ) × (length given < count) × IsRead given before after × IsAtEnd after.left
StopsShort count broken.Fault before after = (given : List ℕ) × (length given < count) × IsReadFault given before after
StopsShort count broken.NoMemory before after = (given : List ℕ) × (length given < count) × IsRead given before after

-- `count` bytes were read
abbrev pub ReadsBody : ℕ → List ℕ → Stream → Stream → Result (Unit {0}) Broken → Type 0
ReadsBody count frame before after (Ok u) = (length frame ≡ count) × IsRead frame before after
ReadsBody count frame before after (Err e) = StopsShort count e before after

-- `count` bytes were read, or all that there were
abbrev pub ReadsPiece : ℕ → List ℕ → Stream → Stream → Result (Unit {0}) Failed → Type 0
ReadsPiece count piece before after (Ok u) = (length piece ≤ count) × IsRead piece before after × (length piece < count → IsAtEnd after.left)
ReadsPiece count piece before after (Err failures.Fault) = StopsShort count broken.Fault before after
ReadsPiece count piece before after (Err failures.NoMemory) = StopsShort count broken.NoMemory before after

-- ---- writing

-- a front of a frame was written
abbrev pub WritesFront : List ℕ → Failed → Stream → Stream → Type 0
WritesFront frame failures.Fault before after = (front : List ℕ) × (rest : List ℕ) × (frame ≡ front ++ rest) × IsWriteFault front before after
WritesFront frame failures.NoMemory before after = (front : List ℕ) × (rest : List ℕ) × (frame ≡ front ++ rest) × IsWritten front before after

-- a frame was written whole, or a front of it
abbrev pub WritesFrame : List ℕ → Stream → Stream → Result (Unit {0}) Failed → Type 0
WritesFrame frame before after (Ok u) = IsWritten frame before after
WritesFrame frame before after (Err e) = WritesFront frame e before after
