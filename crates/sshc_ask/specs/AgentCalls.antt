-- A call of an agent: its frame is written, an answer is read, and the call's result is its reading of that answer.
-- How far a call came is described by the bytes that it took; the code writes and reads piece by piece.
pub mod Frames
pub mod Readings
use Rattle.std.specs.Prelude.{◌≡◌, ◌+◌, ◌^◌, ◌<◌, ◌≤◌, ℕ, List, [], ◌++◌, length, Option, Some, None, Bool, true, false, Result, Ok, Err, Vec}
use Rattle.std.specs.declared.alloc.Global.{Global}
use Rattle.sshc_wire.specs.Contents.{append, prepend, IsAtEnd, WroteFront}
use Rattle.sshc_wire.specs.Wire.{string_text, u32_text}
use Rattle.sshc_key.specs.declared.error.Error.{Error}
use Rattle.sshc_key.specs.declared.error.Error.TheVariants.{AgentProtocolError, NoMemory, ReadFault, UnexpectedEnd, WriteFault}
use Rattle.sshc_key.specs.AgentNumbers.{MAX_AGENT_FRAME_LEN}
use Rattle.sshc_ask.specs.SourceState.{IsCut}
use Rattle.sshc_ask.specs.StreamState.{StreamState, NoFaults, ReadFails, WriteFails}

-- how far a call came
pub data Course : Type 0 where
  -- its frame was not written whole
  unsent : Course
  -- reading stopped after these bytes, which are no whole answer
  unheard : List ℕ → Course
  -- the answer's length is above the limit
  oversized : ℕ → Course
  -- an answer came, with these bytes after its length
  answered : List ℕ → Course

-- the limit on an answer (draft-miller-ssh-agent sets none; this is OpenSSH's)
abbrev pub IsCourse : Course → Type 0
IsCourse unsent = Unit {0}
IsCourse (unheard given) = IsCut given
IsCourse (oversized n) = (MAX_AGENT_FRAME_LEN < n) × (n < 2 ^ 32)
IsCourse (answered answer) = length answer ≤ MAX_AGENT_FRAME_LEN

-- what a call took from the source: never a byte after an answer
abbrev pub taken : Course → List ℕ
taken unsent = []
taken (unheard given) = given
taken (oversized n) = u32_text n
taken (answered answer) = string_text answer

-- what a call wrote: the whole frame, unless it was not sent
abbrev pub Sent : Course → List ℕ → Option (List ℕ) → Option (List ℕ) → Type 0
Sent unsent frame old new = WroteFront old new frame
Sent (unheard given) frame old new = new ≡ append old frame
Sent (oversized n) frame old new = new ≡ append old frame
Sent (answered answer) frame old new = new ≡ append old frame

-- why a frame was not sent
abbrev pub UnsentBy : Error → StreamState → StreamState → Type 0
UnsentBy WriteFault before after = WriteFails before after
UnsentBy NoMemory before after = NoFaults before after
UnsentBy e before after = ⊥

-- why no whole answer was read
abbrev pub UnheardBy : Error → StreamState → StreamState → Type 0
UnheardBy ReadFault before after = ReadFails before after
UnheardBy UnexpectedEnd before after = NoFaults before after × IsAtEnd after.left
UnheardBy NoMemory before after = NoFaults before after
UnheardBy e before after = ⊥

-- a call's result, by how far it came; if an answer came, the result is its reading
abbrev pub Answers : {X : Type 0} → Course → (List ℕ → Type 0) → StreamState → StreamState → Result X Error → Type 0
Answers unsent reading before after (Ok x) = ⊥
Answers unsent reading before after (Err e) = UnsentBy e before after
Answers (unheard given) reading before after (Ok x) = ⊥
Answers (unheard given) reading before after (Err e) = UnheardBy e before after
Answers (oversized n) reading before after (Ok x) = ⊥
Answers (oversized n) reading before after (Err e) = (e ≡ AgentProtocolError) × NoFaults before after
Answers (answered answer) reading before after result = reading answer × NoFaults before after

-- the source's bytes begin with the frame of `found`, followed by `rest`
abbrev pub Finds : List ℕ → List ℕ → Option (List ℕ) → Type 0
Finds found rest before = (length found ≤ MAX_AGENT_FRAME_LEN) × (before ≡ Some (string_text found ++ rest))

-- a call that sent its frame reads the answer that is there, or it stopped reading before the source's end, by a fault
-- or out of memory
abbrev pub IsComplete : Course → Option (List ℕ) → Option (List ℕ) → Type 0
IsComplete unsent before after = Unit {0}
IsComplete (unheard given) before after = (found rest : List ℕ) → Finds found rest before → IsAtEnd after → ⊥
IsComplete (oversized n) before after = (found rest : List ℕ) → Finds found rest before → ⊥
IsComplete (answered answer) before after = (found rest : List ℕ) → Finds found rest before → (answer ≡ found) × (after ≡ Some rest)

-- a call with this frame: what it writes, what it reads, and its result
pub record Calls {X : Type 0} (frame : List ℕ) (reading : List ℕ → Type 0) (before after : StreamState) (result : Result X Error) : Type 0 where
  pub course : Course
  pub is : IsCourse course
  pub sent : Sent course frame before.held after.held
  pub left : before.left ≡ prepend (taken course) after.left
  pub answer : Answers course reading before after result
  pub complete : IsComplete course before.left after.left
  -- each write and each read but the last of its kind moves a byte
  pub writes : after.writes ≤ before.writes + length frame + 1
  pub reads : after.reads ≤ before.reads + length (taken course) + 1
  pub refusals : after.refusals ≡ before.refusals

-- the whole answer itself
abbrev pub AnswerIs : Result (Vec ℕ Global) Error → List ℕ → Type 0
AnswerIs (Ok v) answer = v.items ≡ answer
AnswerIs (Err e) answer = ⊥

-- a string that was found is appended; without one, nothing is appended
abbrev pub Found : List ℕ → List ℕ → Result Bool Error → Option (List ℕ) → Type 0
Found old new (Ok true) found = (text : List ℕ) × (found ≡ Some text) × (new ≡ old ++ text)
Found old new (Ok false) found = (found ≡ None) × (new ≡ old)
Found old new (Err e) found = (e ≡ NoMemory) × (new ≡ old)
