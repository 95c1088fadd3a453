-- A run of a proxy in progress: where it is between two actions, and what is known there.
use Rattle.std.specs.Prelude.{◌≡◌, ◌≤◌, ℕ, Bool, true, false, List, [], ◌++◌, length, Result, Ok, Err}
use Rattle.sshc_wire.specs.declared.source.Failed.{Failed}
use Rattle.sshc_wire.specs.declared.source.Failed.TheVariants as failures
use Rattle.sshc_wire.specs.Wire.{string_text}
use Rattle.sshc_key.specs.AgentNumbers.{MAX_AGENT_FRAME_LEN}
use Rattle.sshc_proxy.specs.declared.broken.Broken.{Broken}
use Rattle.sshc_proxy.specs.declared.broken.Broken.TheVariants as broken
use Rattle.sshc_proxy.specs.declared.error.ProxyError.{ProxyError}
use Rattle.sshc_proxy.specs.declared.error.ProxyError.TheVariants as errors
use Rattle.sshc_proxy.specs.Frames.{Stream}
use Rattle.sshc_proxy.specs.ProxyHistory.{AllFollow, Remembers, Step}
use Rattle.sshc_proxy.specs.ProxyTable.{Proxy}
use Rattle.sshc_proxy.specs.ProxyRun.{AreFed, EndsLast, IsAwaiting, IsIdle, IsNext, Pending, Relays, Streams, Terms, Transfers, answer_bytes, forward_bytes, from_agent, from_client, nothing, to_agent, to_client}

-- what is to be done next
pub data Place : Type 0 where
  -- the client's next frame is read
  idle : Place
  -- this frame of the client, which was read, is taken
  framed : List ℕ → Place
  -- this output is written to the agent
  asking : List ℕ → Place
  -- the agent's answer is read
  awaiting : Place
  -- this answer of the agent, which was read, is taken
  heard : List ℕ → Place
  -- this output is written to the client
  replying : List ℕ → Place

-- the bytes that were read for no step yet, and those of outputs that aren't written yet
abbrev pub pending_at : Place → Pending
pending_at (framed whole) = record { frame = string_text whole; answer = []; reply = []; request = [] }
pending_at (asking frame) = record { frame = []; answer = []; reply = []; request = frame }
pending_at (heard answer) = record { frame = []; answer = string_text answer; reply = []; request = [] }
pending_at (replying frame) = record { frame = []; answer = []; reply = frame; request = [] }
pending_at place = nothing

-- what the steps so far say of the place
abbrev pub IsAt : Place → List Step → Type 0
IsAt idle steps = IsIdle steps
IsAt (framed whole) steps = IsIdle steps × (length whole ≤ MAX_AGENT_FRAME_LEN)
IsAt (asking frame) steps = IsAwaiting steps × EndsLast forward_bytes frame steps
IsAt awaiting steps = IsAwaiting steps
IsAt (heard answer) steps = IsAwaiting steps × (length answer ≤ MAX_AGENT_FRAME_LEN)
IsAt (replying frame) steps = IsIdle steps × EndsLast answer_bytes frame steps

-- no read and no write failed
pub record SameFaults (before after : Stream) : Type 0 where
  pub read_faults : after.read_faults ≡ before.read_faults
  pub write_faults : after.write_faults ≡ before.write_faults

pub record Relaying (terms : Terms) (before now : Streams) (core : Proxy) (place : Place) : Type 0 where
  pub steps : List Step
  pub knows : Remembers terms.accepts core steps
  pub policy : core.policy ≡ terms.policy
  pub order : AllFollow IsNext [] steps
  pub fed : AreFed steps
  pub at : IsAt place steps
  pub client : Transfers (from_client steps ++ (pending_at place).frame) (to_client steps) (pending_at place).reply before.client now.client
  pub agent : Transfers (from_agent steps ++ (pending_at place).answer) (to_agent steps) (pending_at place).request before.agent now.agent
  pub client_faults : SameFaults before.client now.client
  pub agent_faults : SameFaults before.agent now.agent

-- after a turn: the client's next frame is read, or the run has ended
abbrev pub Turned : Terms → Streams → Streams → Proxy → Result Bool ProxyError → Type 0
Turned terms before now core (Ok true) = Relaying terms before now core idle
Turned terms before now core (Ok false) = Relays terms before now (Ok tt)
Turned terms before now core (Err e) = Relays terms before now (Err e)

-- ---- errors

-- the error for a frame that can't be read whole, where a fault of its stream is `fault`
abbrev pub reading_error : ProxyError → Broken → ProxyError
reading_error fault broken.NoMemory = errors.NoMemory
reading_error fault broken.Fault = fault
reading_error fault broken.TooLong = errors.TooLong
reading_error fault broken.UnexpectedEnd = errors.UnexpectedEnd

-- the error for a frame that can't be written
abbrev pub writing_error : ProxyError → Failed → ProxyError
writing_error fault failures.NoMemory = errors.NoMemory
writing_error fault failures.Fault = fault
