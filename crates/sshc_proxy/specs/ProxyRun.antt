-- A run of a proxy between one client and its agent: the steps of a connection, the bytes that were read and written for
-- them, and why the run ended (draft-miller-ssh-agent, section 3).
-- The definitions are about whole lists of steps and bytes; the code keeps one frame and one answer.
use Rattle.std.specs.Prelude.{◌≡◌, ◌≢◌, ◌⊎◌, ◌≤◌, ℕ, List, [], ◌∷◌, ◌++◌, length, Option, Some, None, Result, Ok, Err}
use Rattle.std.specs.List.{flat_map}
use Rattle.sshc_wire.specs.Contents.{IsAtEnd, append, prepend}
use Rattle.sshc_wire.specs.Faults.{Rose}
use Rattle.sshc_wire.specs.Wire.{string_text, u32_text}
use Rattle.sshc_key.specs.AgentNumbers.{MAX_AGENT_FRAME_LEN}
use Rattle.sshc_ask.specs.SourceState.{IsCut}
use Rattle.sshc_proxy.specs.declared.error.ProxyError.{ProxyError}
use Rattle.sshc_proxy.specs.declared.error.ProxyError.TheVariants as errors
use Rattle.sshc_proxy.specs.declared.input.ProxyInput.{ProxyInput}
use Rattle.sshc_proxy.specs.declared.input.ProxyInput.TheVariants as inputs
use Rattle.sshc_proxy.specs.declared.input.ProxyOutput.{ProxyOutput}
use Rattle.sshc_proxy.specs.declared.input.ProxyOutput.TheVariants as outputs
use Rattle.sshc_proxy.specs.Binding.{Accepts}
use Rattle.sshc_proxy.specs.Frames.{IsTooLong, Stream}
use Rattle.sshc_proxy.specs.Policy.{Rule}
use Rattle.sshc_proxy.specs.ProxyHistory.{AllFollow, Keeps, MayFollow, Step, forwarded}

-- which signatures are accepted, and the policy
pub record Terms : Type 0 where
  pub accepts : Accepts
  pub policy : List Rule

abbrev pub terms : Accepts → List Rule → Terms
terms accepts policy = record { accepts = accepts; policy = policy }

-- both streams
pub record Streams : Type 0 where
  pub client : Stream
  pub agent : Stream

abbrev pub streams : Stream → Stream → Streams
streams client agent = record { client = client; agent = agent }

-- ---- the bytes of steps

-- of an input: a frame with its length
abbrev pub client_bytes : ProxyInput → List ℕ
client_bytes (inputs.Frame whole) = string_text whole
client_bytes input = []

abbrev pub agent_bytes : ProxyInput → List ℕ
agent_bytes (inputs.Upstream answer) = string_text answer
agent_bytes input = []

-- of an output
abbrev pub answer_bytes : ProxyOutput → List ℕ
answer_bytes (outputs.Answer frame) = frame
answer_bytes output = []

abbrev pub forward_bytes : ProxyOutput → List ℕ
forward_bytes (outputs.Forward frame) = frame
forward_bytes output = []

abbrev pub from_client : List Step → List ℕ
from_client steps = flat_map (λ step. client_bytes step.input) steps

abbrev pub from_agent : List Step → List ℕ
from_agent steps = flat_map (λ step. agent_bytes step.input) steps

abbrev pub to_client : List Step → List ℕ
to_client steps = flat_map (λ step. answer_bytes step.output) steps

abbrev pub to_agent : List Step → List ℕ
to_agent steps = flat_map (λ step. forward_bytes step.output) steps

-- ---- the order of steps

-- a frame was forwarded and isn't answered yet; or none was
abbrev pub IsAwaiting : List Step → Type 0
IsAwaiting steps = (asked : List ℕ) × (forwarded 0 steps ≡ Some asked)

abbrev pub IsIdle : List Step → Type 0
IsIdle steps = forwarded 0 steps ≡ None

-- after a frame that was forwarded comes the agent's answer, and else the client's next frame, within the limit
abbrev pub IsInTurn : Option (List ℕ) → ProxyInput → Type 0
IsInTurn None (inputs.Frame whole) = length whole ≤ MAX_AGENT_FRAME_LEN
IsInTurn (Some asked) (inputs.Upstream answer) = length answer ≤ MAX_AGENT_FRAME_LEN
IsInTurn last input = ⊥

-- memory sufficed for each of these steps
abbrev pub AreFed : List Step → Type 0
AreFed [] = Unit {0}
AreFed (step ∷ steps) = (step.output ≢ outputs.NoMemory) × AreFed steps

-- the next step of a run, which has one connection, of the number 0; a run ends with a step for which memory ran out
pub record IsNext (steps : List Step) (step : Step) : Type 0 where
  pub conn : step.conn ≡ 0
  pub turn : IsInTurn (forwarded 0 steps) step.input
  pub fed : AreFed steps

-- ---- where a run stops

pub data Stop : Type 0 where
  -- between two frames of the client
  between : Stop
  -- in a frame of the client, or in an answer of the agent or before it, of which these bytes were read
  in_frame : List ℕ → Stop
  in_answer : List ℕ → Stop
  -- behind a length of the client's or the agent's that is above the limit
  long_frame : ℕ → Stop
  long_answer : ℕ → Stop
  -- in an output to the client or to the agent, whose last bytes, these, were not written
  in_reply : List ℕ → Stop
  in_request : List ℕ → Stop
  -- behind a step for which memory ran out
  starved : Stop

-- the bytes that were read for no step, and the bytes of outputs that weren't written
pub record Pending : Type 0 where
  pub frame : List ℕ
  pub answer : List ℕ
  pub reply : List ℕ
  pub request : List ℕ

abbrev pub nothing : Pending
nothing = record { frame = []; answer = []; reply = []; request = [] }

abbrev pub pending : Stop → Pending
pending (in_frame given) = record { frame = given; answer = []; reply = []; request = [] }
pending (in_answer given) = record { frame = []; answer = given; reply = []; request = [] }
pending (long_frame n) = record { frame = u32_text n; answer = []; reply = []; request = [] }
pending (long_answer n) = record { frame = []; answer = u32_text n; reply = []; request = [] }
pending (in_reply rest) = record { frame = []; answer = []; reply = rest; request = [] }
pending (in_request rest) = record { frame = []; answer = []; reply = []; request = rest }
pending stop = nothing

-- the bytes are the end of the last step's output
abbrev pub EndsLast : (ProxyOutput → List ℕ) → List ℕ → List Step → Type 0
EndsLast bytes rest steps = (earlier : List Step) × (step : Step) × (front : List ℕ) × (steps ≡ earlier ++ step ∷ []) × (bytes step.output ≡ front ++ rest)

-- out of memory, or by a fault
abbrev pub StopsBy : ProxyError → Result (Unit {0}) ProxyError → Type 0
StopsBy fault result = (result ≡ Err errors.NoMemory) ⊎ (result ≡ Err fault)

-- Ok only at the end of the client's bytes
abbrev pub EndsBetween : Stream → Result (Unit {0}) ProxyError → Type 0
EndsBetween client (Ok u) = IsAtEnd client.left
EndsBetween client (Err e) = e ≡ errors.NoMemory

-- the result, by where the run stops
abbrev pub Ends : Stop → List Step → Streams → Result (Unit {0}) ProxyError → Type 0
Ends between steps after result = IsIdle steps × EndsBetween after.client result
Ends (in_frame given) steps after result =
    IsIdle steps × IsCut given × (StopsBy errors.ClientFault result ⊎ ((result ≡ Err errors.UnexpectedEnd) × (given ≢ []) × IsAtEnd after.client.left))
Ends (in_answer given) steps after result =
    IsAwaiting steps × IsCut given × (StopsBy errors.AgentFault result ⊎ ((result ≡ Err errors.UnexpectedEnd) × IsAtEnd after.agent.left))
Ends (long_frame n) steps after result = IsIdle steps × IsTooLong n × (result ≡ Err errors.TooLong)
Ends (long_answer n) steps after result = IsAwaiting steps × IsTooLong n × (result ≡ Err errors.TooLong)
Ends (in_reply rest) steps after result = EndsLast answer_bytes rest steps × StopsBy errors.ClientFault result
Ends (in_request rest) steps after result = EndsLast forward_bytes rest steps × StopsBy errors.AgentFault result
Ends starved steps after result = result ≡ Err errors.NoMemory

-- ---- a run

-- on one stream `read` was read, and of the bytes that were due all were written but these last
pub record Transfers (read due unwritten : List ℕ) (before after : Stream) : Type 0 where
  pub written : List ℕ
  pub left : before.left ≡ prepend read after.left
  pub held : after.held ≡ append before.held written
  pub output : due ≡ written ++ unwritten

-- the stream's fault is returned only where one of its counts rose, and with every other result both stay
pub record CountsFaults (fault : ProxyError) (before after : Stream) (result : Result (Unit {0}) ProxyError) : Type 0 where
  pub rose : result ≡ Err fault → Rose before.read_faults after.read_faults ⊎ Rose before.write_faults after.write_faults
  pub same : (result ≡ Err fault → ⊥) → (after.read_faults ≡ before.read_faults) × (after.write_faults ≡ before.write_faults)

pub record Relays (terms : Terms) (before after : Streams) (result : Result (Unit {0}) ProxyError) : Type 0 where
  pub steps : List Step
  -- each output is the row of its input, or memory ran out
  pub history : AllFollow (MayFollow terms.accepts terms.policy) [] steps
  -- each step keeps the policy
  pub kept : AllFollow (Keeps terms.accepts terms.policy) [] steps
  -- each frame of the client is one step, and each answer to a frame that was forwarded is the next
  pub order : AllFollow IsNext [] steps
  pub fed : AreFed steps ⊎ (result ≡ Err errors.NoMemory)
  -- what was read is the inputs, in order, and what was written is the outputs, in order, but for what is pending
  pub stop : Stop
  pub client : Transfers (from_client steps ++ (pending stop).frame) (to_client steps) (pending stop).reply before.client after.client
  pub agent : Transfers (from_agent steps ++ (pending stop).answer) (to_agent steps) (pending stop).request before.agent after.agent
  pub ends : Ends stop steps after result
  pub client_faults : CountsFaults errors.ClientFault before.client after.client result
  pub agent_faults : CountsFaults errors.AgentFault before.agent after.agent result
