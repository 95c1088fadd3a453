pub mod Identities
pub mod Sign
pub mod Add
pub mod Remove
pub mod Lock
-- The agent table: a row for each input, chosen by the state of its connection and by the message
-- (draft-miller-ssh-agent, sections 3.2 to 3.7; RFC 8332 for the flags of a signature).
-- It is defined by cases on plain data; each row has a function of the same name in the code.
use Rattle.std.specs.Prelude.{◌≡◌, ◌⊎◌, ℕ, Bool, true, false, List, [], ◌∷◌, Option, Some, None, Result, Ok, ◌==◌, if◌then◌else◌}
use Rattle.std.specs.Option.{is_some}
use Rattle.sshc_wire.specs.declared.message_type.MessageType.{MessageType}
use Rattle.sshc_wire.specs.declared.message_type.MessageType.TheVariants as messages
use Rattle.sshc_wire.specs.declared.error.NoMemory.{NoMemory}
use Rattle.sshc_key.specs.Signers.{SignCall}
use Rattle.sshc_key.specs.Asking.{Answer, Asking, Makes, MakesFirst, done}
use Rattle.sshc_agent_core.specs.declared.agent_core.turn.Turn.{Turn as Taken}
use Rattle.sshc_agent_core.specs.declared.agent_core.turn.Turn.TheVariants as taken
use Rattle.sshc_agent_core.specs.declared.connections.Standing.{Standing}
use Rattle.sshc_agent_core.specs.declared.connections.Standing.TheVariants as standings
use Rattle.sshc_agent_core.specs.declared.input.AgentInput.{AgentInput}
use Rattle.sshc_agent_core.specs.declared.input.AgentInput.TheVariants as inputs
use Rattle.sshc_agent_core.specs.declared.input.AgentOutput.{AgentOutput}
use Rattle.sshc_agent_core.specs.declared.input.AgentOutput.TheVariants as outputs
use Rattle.sshc_agent_core.specs.declared.input.Cause.TheVariants as causes
use Rattle.sshc_agent_core.specs.declared.key_list.HeldKey.{HeldKey}
use Rattle.sshc_key.specs.AgentNumbers.{ADD_ID_CONSTRAINED}
use Rattle.sshc_agent_core.specs.AgentList.{AgentList, aged, seen, standing, starved}
use Rattle.sshc_agent_core.specs.Connections.{standing_of}
use Rattle.sshc_agent_core.specs.Messages.{message_of}
use Rattle.sshc_agent_core.specs.Turn.{FollowsTold, Outcome, Turn, fails, ignored, says, signs}
use Rattle.sshc_agent_core.specs.AgentTable.Identities.{identities_turn}
use Rattle.sshc_agent_core.specs.AgentTable.Sign.{confirmed_turn, sign_request_turn, sign_row}
use Rattle.sshc_agent_core.specs.AgentTable.Add.{add_turn}
use Rattle.sshc_agent_core.specs.AgentTable.Remove.{remove_turn, remove_all_turn}
use Rattle.sshc_agent_core.specs.AgentTable.Lock.{lock_turn, unlock_turn}

-- ---- a frame

-- a locked agent refuses every message but an unlock, and an unlocked one refuses an unlock
abbrev pub is_refused : MessageType → Bool → Bool
is_refused messages.Unlock locked = if locked then false else true
is_refused message locked = locked

-- the row of a message, whose number is known
abbrev pub message_turn : MessageType → ℕ → List ℕ → List ℕ → AgentList → Turn
message_turn messages.RequestKeys number body whole l = identities_turn l
message_turn messages.Sign number body whole l = sign_request_turn body whole l
message_turn messages.AddKeys number body whole l = add_turn (number == ADD_ID_CONSTRAINED) body l
message_turn messages.RemoveKeys number body whole l = remove_turn body l
message_turn messages.RemoveAllKeys number body whole l = remove_all_turn l
message_turn messages.Lock number body whole l = lock_turn body l
message_turn messages.Unlock number body whole l = unlock_turn body l

-- the lock is tested, and then the message's row is taken
abbrev pub tested_turn : Option MessageType → ℕ → List ℕ → List ℕ → AgentList → Turn
tested_turn None number body whole l = fails l
tested_turn (Some message) number body whole l = if is_refused message (is_some l.passphrase) then fails l else message_turn message number body whole l

-- the same, but an agent that asks asks the user first
abbrev pub asked_turn : Option MessageType → ℕ → List ℕ → List ℕ → AgentList → Turn
asked_turn None number body whole l = fails l
asked_turn (Some message) number body whole l =
    if is_refused message (is_some l.passphrase) then fails l
    else (if l.asks then says l (standings.RequestAsked whole) (outputs.AskRequest message) else message_turn message number body whole l)

-- a frame on a connection on which no question is open
unfoldable pub frame_turn : List ℕ → AgentList → Turn
frame_turn [] l = fails l
frame_turn (number ∷ body) l = asked_turn (message_of number) number body (number ∷ body) l

-- ---- answers to questions

abbrev pub allowed_turn : List ℕ → AgentList → Turn
allowed_turn [] l = fails l
allowed_turn (number ∷ body) l = tested_turn (message_of number) number body (number ∷ body) l

-- the user's decision on the request in this frame; the lock is tested again
unfoldable pub request_answer_turn : Bool → List ℕ → AgentList → Turn
request_answer_turn false whole l = fails l
request_answer_turn true whole l = allowed_turn whole l

-- the user's decision on the use of the key of this frame
unfoldable pub key_answer_turn : Bool → List ℕ → AgentList → Turn
key_answer_turn false whole l = fails l
key_answer_turn true whole l = if is_some l.passphrase then fails l else confirmed_turn whole l

-- ---- an input

-- the outcome of a row's turn on its connection
abbrev pub turned : ℕ → Turn → Asking Outcome
turned conn (says l stands output) = done (record { next = standing conn stands l; output = output })
turned conn (signs l key rest) = sign_row conn l key rest

-- an input, by the state of its connection; an input that doesn't fit the open question is ignored
abbrev pub standing_row : Option Standing → ℕ → AgentInput → AgentList → Asking Outcome
standing_row None conn input l = done (ignored l)
standing_row (Some standings.Closed) conn input l = done (ignored l)
standing_row (Some stands) conn (inputs.Oversize length) l = done (record { next = standing conn standings.Closed l; output = outputs.Closed causes.TooLong })
standing_row (Some stands) conn inputs.Close l = done (record { next = standing conn standings.Closed l; output = outputs.Nothing })
standing_row (Some standings.Open) conn (inputs.Frame whole) l = turned conn (frame_turn whole l)
standing_row (Some (standings.RequestAsked whole)) conn (inputs.RequestAnswer allowed) l = turned conn (request_answer_turn allowed whole l)
standing_row (Some (standings.KeyAsked whole)) conn (inputs.KeyAnswer confirmed) l = turned conn (key_answer_turn confirmed whole l)
standing_row (Some stands) conn input l = done (ignored l)

-- an input of a connection that was seen
unfoldable pub seen_row : ℕ → AgentInput → AgentList → Asking Outcome
seen_row conn input l = standing_row (standing_of l.conns conn) conn input l

-- the row of an input at a moment, depending on the signer's answer
unfoldable pub agent_row : ℕ → ℕ → AgentInput → AgentList → Asking Outcome
agent_row now conn input l = seen_row conn input (seen conn (aged now l))

-- ---- what a step does

abbrev pub is_shut : Option Standing → Bool
is_shut (Some standings.Closed) = true
is_shut stands = false

-- what happens after a row's turn was taken, with the signer's answer if there is one
abbrev pub Finishes : ℕ → Taken → AgentList → AgentList → Option Answer → Result AgentOutput NoMemory → Type 0
Finishes conn (taken.Says stands output) old new answer result = (result ≡ Ok output) × (new ≡ standing conn stands old)
Finishes conn (taken.Signs rest) old new answer result = (key : HeldKey) → FollowsTold (sign_row conn old key rest.now) old new answer result

-- a step that ran out of memory, on a connection that isn't closed; the signer may have been asked before
pub record Starves (now conn : ℕ) (input : AgentInput) (before after : AgentList) (gained : List SignCall) (output : AgentOutput) : Type 0 where
  pub closed : output ≡ outputs.Closed causes.NoMemory
  pub list : after ≡ starved now conn before
  pub asked : MakesFirst (agent_row now conn input before) gained
  pub open_before : is_shut (standing_of before.conns conn) ≡ false

-- a step is the row of its input, with the calls that were added to the signer's list, or it ran out of memory
abbrev pub Steps : ℕ → ℕ → AgentInput → AgentList → AgentList → List SignCall → AgentOutput → Type 0
Steps now conn input before after gained output =
    Makes (agent_row now conn input before) gained (record { next = after; output = output }) ⊎ Starves now conn input before after gained output

-- a history shows a step as the row of its input, with the calls that were added to the signer's list; or the step ran
-- out of memory, and no call is shown
abbrev pub Shows : ℕ → ℕ → AgentInput → AgentList → AgentList → List SignCall → AgentOutput → Type 0
Shows now conn input before after gained output =
    Makes (agent_row now conn input before) gained (record { next = after; output = output }) ⊎ ((gained ≡ []) × Starves now conn input before after gained output)
