-- What a step asks to be signed, and the answer that it is told (draft-miller-ssh-agent, section 3.6): a step is to ask,
-- and then to do the rest of its row with the answer.
use Rattle.std.specs.Prelude.{◌≡◌, ◌≤◌, ℕ, List, length, Option, Some, None, Result, Ok, Err, Vec}
use Rattle.std.specs.declared.alloc.Global.{Global}
use Rattle.sshc_key.specs.Asking.{Answer, SignRequest}
use Rattle.sshc_key.specs.declared.signer.Asker.TheVariants.{Agent}
use Rattle.sshc_key.specs.declared.signer.SignRefused.{SignRefused}
use Rattle.sshc_key.specs.declared.signer.SignRefused.TheVariants.{NoMemory, Refused}
use Rattle.sshc_agent_core.specs.declared.signing.SignQuestion.{SignQuestion}
use Rattle.sshc_agent_core.specs.declared.signing.Told.{Told}
use Rattle.sshc_agent_core.specs.declared.signing.Told.TheVariants as told
use Rattle.sshc_agent_core.specs.declared.input.AgentInput.{AgentInput}
use Rattle.sshc_agent_core.specs.AgentList.{AgentList}
use Rattle.sshc_agent_core.specs.AgentTable.{agent_row}
use Rattle.sshc_agent_core.specs.Turn.{asked_in}

-- what the row of an input asks to be signed
unfoldable pub asked_of : ℕ → ℕ → AgentInput → AgentList → Option SignRequest
asked_of now conn input l = asked_in (agent_row now conn input l)

-- the request to the signer, which the agent asks for a connection
abbrev pub request_by : ℕ → Option SignQuestion → Option SignRequest
request_by conn None = None
request_by conn (Some asked) = Some (record { by = Agent conn; key = asked.key.now; hash = asked.hash; bytes = asked.bytes.now })

-- the signer's answer, if there is one
abbrev pub told_of : Told → Option Answer
told_of told.Unanswered = None
told_of (told.Signed signature) = Some (Some signature.now)
told_of told.Refused = Some None

-- the same of what a signer returned
abbrev pub answer_of : Result (Vec ℕ Global) SignRefused → Option Answer
answer_of (Ok v) = Some (Some v.items)
answer_of (Err Refused) = Some None
answer_of (Err NoMemory) = None

-- a signature has at most 65536 bytes
abbrev pub IsShortTold : Told → Type 0
IsShortTold (told.Signed signature) = length signature.now ≤ 65536
IsShortTold other = Unit {0}
