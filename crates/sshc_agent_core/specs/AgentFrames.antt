-- Frames of a connection (draft-miller-ssh-agent, section 3): four bytes of length, at most 262144, and that many
-- bytes.
-- What the bytes so far contain is a function of the whole list; the code keeps an index into a buffer.
use Rattle.std.specs.Prelude.{◌≡◌, ℕ, Bool, true, false, List, [], ◌∷◌, ◌++◌, length, take, drop, nat_lt, Option, Some, None, Result, Ok, Err, if◌then◌else◌}
use Rattle.std.specs.Int.{w32}
use Rattle.sshc_wire.specs.declared.error.NoMemory.{NoMemory}
use Rattle.sshc_wire.specs.declared.error.WireError.{WireError}
use Rattle.sshc_wire.specs.Reads.{number_at}
use Rattle.sshc_agent_core.specs.declared.input.AgentInput.{AgentInput}
use Rattle.sshc_agent_core.specs.declared.input.AgentInput.TheVariants.{Frame, Oversize}
use Rattle.sshc_key.specs.AgentNumbers.{MAX_AGENT_FRAME_LEN}

-- the bytes that are in no frame yet, and whether a length above the limit came
pub record FrameBytes : Type 0 where
  pub bytes : List ℕ
  pub over : Bool

abbrev pub no_bytes : FrameBytes
no_bytes = record { bytes = []; over = false }

-- more bytes came; after a length above the limit they are dropped
abbrev pub pushed : FrameBytes → List ℕ → FrameBytes
pushed s piece = if s.over then s else record s { bytes = s.bytes ++ piece }

-- by whether the length is above the limit, and whether bytes are missing
abbrev pub framed_by : Bool → Bool → ℕ → List ℕ → Option (AgentInput × FrameBytes)
framed_by true short n rest = Some (Oversize n, record { bytes = []; over = true })
framed_by false true n rest = None
framed_by false false n rest = Some (Frame (take n rest), record { bytes = drop n rest; over = false })

-- by the length at the front
abbrev pub framed_in : Result (ℕ × List ℕ) WireError → Option (AgentInput × FrameBytes)
framed_in (Err e) = None
framed_in (Ok n) = framed_by (nat_lt MAX_AGENT_FRAME_LEN n.0) (nat_lt (length n.1) n.0) n.0 n.1

-- the frame or the length above the limit at the front, and the bytes after it
unfoldable pub next_in : FrameBytes → Option (AgentInput × FrameBytes)
next_in s = if s.over then None else framed_in (number_at w32 s.bytes)

-- what a call returns, and the bytes that remain afterwards
abbrev pub NextBy : FrameBytes → FrameBytes → Result (Option AgentInput) NoMemory → Type 0
NextBy old new (Ok None) = (next_in old ≡ None) × (new ≡ old)
NextBy old new (Ok (Some input)) = next_in old ≡ Some (input, new)
NextBy old new (Err e) = new ≡ old

-- these inputs are returned one after the other, and then these bytes remain
abbrev pub Gives : FrameBytes → List AgentInput → FrameBytes → Type 0
Gives s [] t = s ≡ t
Gives s (input ∷ inputs) t = (mid : FrameBytes) × (next_in s ≡ Some (input, mid)) × Gives mid inputs t

-- these are all the inputs
pub record GivesAll (s : FrameBytes) (inputs : List AgentInput) (t : FrameBytes) : Type 0 where
  pub gives : Gives s inputs t
  pub nothing : next_in t ≡ None
