-- The outputs of an agent as a caller in C gets them: a status, and bytes.
use Rattle.std.specs.Prelude.{◌≡◌, ◌⊎◌, ◌==◌, if◌then◌else◌, ℕ, List, [], Option, Some, None}
use Rattle.sshc_key.specs.Asking.{Answer}
use Rattle.sshc_wire.specs.declared.message_type.MessageType.{MessageType}
use Rattle.sshc_wire.specs.declared.message_type.MessageType.TheVariants as messages
use Rattle.sshc_agent_core.specs.declared.input.AgentInput.{AgentInput}
use Rattle.sshc_agent_core.specs.declared.input.AgentOutput.{AgentOutput}
use Rattle.sshc_agent_core.specs.declared.input.AgentOutput.TheVariants as outputs
use Rattle.sshc_agent_core.specs.declared.input.Cause.TheVariants as causes
use Rattle.sshc_agent_core.specs.AgentList.{AgentList}
use Rattle.sshc_agent_core.specs.AgentTable.{Steps}
use Rattle.sshc_agent_core.specs.Asked.{asked_of}
use Rattle.sshc_agent_core.specs.Turn.{told_calls}

abbrev pub status_of : AgentOutput → ℕ
status_of (outputs.Answer frame) = 0
status_of (outputs.AskRequest message) = 13
status_of (outputs.AskKey blob) = 14
status_of outputs.Nothing = 6
status_of (outputs.Closed causes.TooLong) = 15
status_of (outputs.Closed causes.Unreadable) = 16
status_of (outputs.Closed causes.SignerRefused) = 17
status_of (outputs.Closed causes.NoMemory) = 20

-- the number of a request, as in record 41
abbrev pub message_number : MessageType → ℕ
message_number messages.RequestKeys = 0
message_number messages.AddKeys = 1
message_number messages.RemoveKeys = 2
message_number messages.RemoveAllKeys = 3
message_number messages.Sign = 4
message_number messages.Lock = 5
message_number messages.Unlock = 6

-- the number of the request asked about
abbrev pub number_of : AgentOutput → ℕ
number_of (outputs.AskRequest message) = message_number message
number_of output = 0

-- a whole frame with its length, or the blob of the key asked about
abbrev pub bytes_of : AgentOutput → List ℕ
bytes_of (outputs.Answer frame) = frame
bytes_of (outputs.AskRequest message) = []
bytes_of (outputs.AskKey blob) = blob
bytes_of outputs.Nothing = []
bytes_of (outputs.Closed cause) = []

-- how the caller tells what the signer answered: 0 nothing, 1 this signature, any other a refusal
abbrev pub answer_told : ℕ → List ℕ → Option Answer
answer_told told signature = if told == 0 then None else (if told == 1 then Some (Some signature) else Some None)

-- what a caller gets of an output
pub record Returned : Type 0 where
  pub bytes : List ℕ
  pub number : ℕ
  pub status : ℕ

abbrev pub said_as : List ℕ → ℕ → ℕ → Returned
said_as bytes number status = record { bytes = bytes; number = number; status = status }

-- an input was taken with this answer of the signer: the agent made the step of its table, and this is its output
pub record TakesInput (now conn : ℕ) (input : AgentInput) (answer : Option Answer) (old new : AgentList) (returned : Returned) : Type 0 where
  pub output : AgentOutput
  pub steps : Steps now conn input old new (told_calls (asked_of now conn input old) answer) output
  pub bytes : returned.bytes ≡ bytes_of output
  pub number : returned.number ≡ number_of output
  pub status : returned.status ≡ status_of output

-- nothing is said, under this status
abbrev pub SaysNothing : Returned → ℕ → Type 0
SaysNothing returned status = (returned.status ≡ status) × (returned.bytes ≡ []) × (returned.number ≡ 0)

-- the number names no input, or memory ran out before the step, and then nothing happened and nothing is said; or the
-- input was taken
abbrev pub TakesNumber : ℕ → ℕ → Option AgentInput → Option Answer → AgentList → AgentList → Returned → Type 0
TakesNumber now conn None answer old new returned = SaysNothing returned 4 × (new ≡ old)
TakesNumber now conn (Some input) answer old new returned = (SaysNothing returned 20 × (new ≡ old)) ⊎ TakesInput now conn input answer old new returned
