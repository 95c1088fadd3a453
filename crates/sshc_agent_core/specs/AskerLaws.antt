-- Whatever a row of the agent table asks of the signer, it asks as the agent, for the connection of the input: a law
-- about the table.
use Rattle.std.proofs.Common.{◌≡◌, ℕ, List, Option, Some, None, Result, Ok, Err, refl}
use Rattle.std.specs.Int.{w32}
use Rattle.sshc_wire.specs.declared.error.WireError.{WireError}
use Rattle.sshc_wire.specs.Reads.{number_at, string_at}
use Rattle.sshc_key.specs.Asking.{Answer, Asking, asks, done}
use Rattle.sshc_key.specs.declared.signer.Asker.TheVariants.{Agent}
use Rattle.sshc_agent_core.specs.declared.connections.Standing.{Standing}
use Rattle.sshc_agent_core.specs.declared.connections.Standing.TheVariants as standings
use Rattle.sshc_agent_core.specs.declared.input.AgentInput.{AgentInput}
use Rattle.sshc_agent_core.specs.declared.input.AgentInput.TheVariants as inputs
use Rattle.sshc_agent_core.specs.declared.key_list.HeldKey.{HeldKey}
use Rattle.sshc_agent_core.specs.AgentHistory.{stands_in}
use Rattle.sshc_agent_core.specs.AgentList.{AgentList, aged, seen}
use Rattle.sshc_agent_core.specs.AgentTable.{agent_row, frame_turn, key_answer_turn, request_answer_turn, seen_row, standing_row, turned}
use Rattle.sshc_agent_core.specs.AgentTable.Sign.{bytes_row, flags_row, sign_row, signed_row}
use Rattle.sshc_agent_core.specs.Turn.{Turn, says, signs}

-- whoever asks is the agent, for this connection
abbrev pub AsksAs : {A : Type 0} → ℕ → Asking A → Type 0
AsksAs conn (done x) = Unit {0}
AsksAs conn (asks asked on) = (asked.by ≡ Agent conn) × ((answer : Answer) → AsksAs conn (on answer))

signed_asks : (conn : ℕ) (l : AgentList) (answer : Answer) → AsksAs conn (signed_row conn l answer)
signed_asks conn l None = tt
signed_asks conn l (Some signature) = tt

flags_asks : (r : Result (ℕ × List ℕ) WireError) (bytes : List ℕ) (conn : ℕ) (l : AgentList) (key : HeldKey) → AsksAs conn (flags_row r bytes conn l key)
flags_asks (Err e) bytes conn l key = tt
flags_asks (Ok flags) bytes conn l key = (refl, λ answer. signed_asks conn l answer)

bytes_asks : (r : Result (List ℕ × List ℕ) WireError) (conn : ℕ) (l : AgentList) (key : HeldKey) → AsksAs conn (bytes_row r conn l key)
bytes_asks (Err e) conn l key = tt
bytes_asks (Ok bytes) conn l key = flags_asks (number_at w32 bytes.1) bytes.0 conn l key

sign_asks : (conn : ℕ) (l : AgentList) (key : HeldKey) (rest : List ℕ) → AsksAs conn (sign_row conn l key rest)
unfolding sign_row
sign_asks conn l key rest = bytes_asks (string_at rest) conn l key

turned_asks : (conn : ℕ) (turn : Turn) → AsksAs conn (turned conn turn)
turned_asks conn (says l stands output) = tt
turned_asks conn (signs l key rest) = sign_asks conn l key rest

standing_asks : (stands : Option Standing) (conn : ℕ) (input : AgentInput) (l : AgentList) → AsksAs conn (standing_row stands conn input l)
standing_asks None conn input l = tt
standing_asks (Some standings.Closed) conn input l = tt
standing_asks (Some standings.Open) conn (inputs.Frame whole) l = turned_asks conn (frame_turn whole l)
standing_asks (Some (standings.RequestAsked whole)) conn (inputs.RequestAnswer allowed) l = turned_asks conn (request_answer_turn allowed whole l)
standing_asks (Some (standings.KeyAsked whole)) conn (inputs.KeyAnswer confirmed) l = turned_asks conn (key_answer_turn confirmed whole l)
standing_asks (Some stands) conn input l = tt

-- each row asks only as the agent
pub row_asks : (now conn : ℕ) (input : AgentInput) (before : AgentList) → AsksAs conn (agent_row now conn input before)
unfolding agent_row seen_row
row_asks now conn input before = standing_asks (stands_in before conn) conn input (seen conn (aged now before))
