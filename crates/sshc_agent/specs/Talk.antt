-- The calls of one connection: which inputs they take from the bytes that were read, how questions are answered, what
-- is written, and why they end (draft-miller-ssh-agent, section 3).
-- The definitions are about whole lists of calls and bytes; the code keeps a buffer and one open question.
use Rattle.std.specs.Prelude.{◌≡◌, ◌≤◌, ◌⊎◌, ℕ, Bool, true, false, List, [], ◌∷◌, ◌++◌, Option, Some, None, Result, Ok, Err}
use Rattle.sshc_wire.specs.declared.error.NoMemory.{NoMemory}
use Rattle.sshc_wire.specs.declared.message_type.MessageType.{MessageType}
use Rattle.sshc_wire.specs.Contents.{IsAtEnd, append, prepend}
use Rattle.sshc_wire.specs.Faults.{Rose}
use Rattle.sshc_agent_core.specs.declared.input.AgentInput.{AgentInput}
use Rattle.sshc_agent_core.specs.declared.input.AgentInput.TheVariants as inputs
use Rattle.sshc_agent_core.specs.declared.input.AgentOutput.{AgentOutput}
use Rattle.sshc_agent_core.specs.declared.input.AgentOutput.TheVariants as outputs
use Rattle.sshc_agent_core.specs.AgentFrames.{FrameBytes, Gives, next_in, no_bytes, pushed}
use Rattle.sshc_agent_shared.specs.declared.call.Call.{Call}
use Rattle.sshc_agent_shared.specs.Kept.{SeatState}
use Rattle.sshc_agent.specs.declared.turn.Next.{Next}
use Rattle.sshc_agent.specs.declared.turn.Next.TheVariants as steps
use Rattle.sshc_agent.specs.declared.turn.Ended.{Ended}
use Rattle.sshc_agent.specs.declared.turn.Ended.TheVariants as ends

-- ---- questions

pub data Question : Type 0 where
  -- whether a request of this kind is allowed
  request : MessageType → Question
  -- whether the key of this blob may sign
  key : List ℕ → Question

abbrev pub question : AgentOutput → Option Question
question (outputs.AskRequest message) = Some (request message)
question (outputs.AskKey blob) = Some (key blob)
question output = None

-- the answers allowed to the one kind of question, and to the other
abbrev pub Allows : Type 1
Allows = MessageType → Bool → Type 0

abbrev pub Confirms : Type 1
Confirms = List ℕ → Bool → Type 0

-- an answer is passed only to the open question, and is one that is allowed
abbrev pub FitsQuestion : Allows → Confirms → Option Question → AgentInput → Type 0
FitsQuestion allows confirms None (inputs.RequestAnswer told) = ⊥
FitsQuestion allows confirms None (inputs.KeyAnswer told) = ⊥
FitsQuestion allows confirms None input = Unit {0}
FitsQuestion allows confirms (Some (request message)) (inputs.RequestAnswer told) = allows message told
FitsQuestion allows confirms (Some (key blob)) (inputs.KeyAnswer told) = confirms blob told
FitsQuestion allows confirms (Some asked) input = ⊥

-- each answer is the call right after its question, and each question but the last call's has one; `after` is the
-- question still open
abbrev pub Follows : Allows → Confirms → Option Question → List Call → Option Question → Type 0
Follows allows confirms asked [] after = after ≡ asked
Follows allows confirms asked (call ∷ calls) after = FitsQuestion allows confirms asked call.input × Follows allows confirms (question call.output) calls after

-- ---- inputs and answers

-- an input that comes from frames
abbrev pub framed : AgentInput → List AgentInput
framed (inputs.Frame whole) = inputs.Frame whole ∷ []
framed (inputs.Oversize length) = inputs.Oversize length ∷ []
framed input = []

abbrev pub framed_in : List Call → List AgentInput
framed_in [] = []
framed_in (call ∷ calls) = framed call.input ++ framed_in calls

-- an answer that is written
abbrev pub reply : AgentOutput → List ℕ
reply (outputs.Answer frame) = frame
reply output = []

abbrev pub replies_of : List Call → List ℕ
replies_of [] = []
replies_of (call ∷ calls) = reply call.output ++ replies_of calls

abbrev pub IsClose : AgentInput → Type 0
IsClose inputs.Close = Unit {0}
IsClose input = ⊥

-- the agent closed the connection
abbrev pub IsClosed : AgentOutput → Type 0
IsClosed (outputs.Closed cause) = Unit {0}
IsClosed output = ⊥

-- the connection continues after this call: it isn't Close, and its answer doesn't close the connection
pub record GoesOn (call : Call) : Type 0 where
  pub unclosing : IsClose call.input → ⊥
  pub unclosed : IsClosed call.output → ⊥

-- it continues after each of these calls
abbrev pub AllGoOn : List Call → Type 0
AllGoOn [] = Unit {0}
AllGoOn (call ∷ calls) = GoesOn call × AllGoOn calls

-- it continues after each of these calls but the last
abbrev pub EndsLast : List Call → Type 0
EndsLast [] = Unit {0}
EndsLast (call ∷ []) = Unit {0}
EndsLast (call ∷ next ∷ calls) = GoesOn call × EndsLast (next ∷ calls)

-- the rest is the end of the whole
abbrev pub EndsWith : List ℕ → List ℕ → Type 0
EndsWith whole rest = (front : List ℕ) × (whole ≡ front ++ rest)

-- there is a last call, and `is` holds of it
abbrev pub Last : (Call → Type 0) → List Call → Type 0
Last is calls = (earlier : List Call) × (call : Call) × (calls ≡ earlier ++ call ∷ []) × is call

-- ---- a connection

-- what contracts see of a stream: the bytes that remain and those it holds, if visible, and its counts of faults
pub record StreamSeen : Type 0 where
  pub left : Option (List ℕ)
  pub held : Option (List ℕ)
  pub read_faults : ℕ
  pub write_faults : ℕ

abbrev pub seen : Option (List ℕ) → Option (List ℕ) → ℕ → ℕ → StreamSeen
seen left held read_faults write_faults = record { left = left; held = held; read_faults = read_faults; write_faults = write_faults }

abbrev pub RanOut : Result (Unit {0}) NoMemory → Type 0
RanOut (Ok done) = ⊥
RanOut (Err e) = Unit {0}

-- why a connection's calls end
pub data Ending (before after : StreamSeen) (seat seat' : SeatState) (added : List Call) (rest : FrameBytes) (result : Result (Unit {0}) NoMemory) : Type 0 where
  starved : RanOut result → Ending before after seat seat' added rest result
  -- the source failed, and the last call is Close
  read_failed : Rose before.read_faults after.read_faults → Last (λ call. IsClose call.input) added → Ending before after seat seat' added rest result
  write_failed : Rose before.write_faults after.write_faults → Ending before after seat seat' added rest result
  -- a call was refused
  refused : Rose seat.refused seat'.refused → Ending before after seat seat' added rest result
  -- the agent closed the connection by the last answer
  closed : Last (λ call. IsClosed call.output) added → Ending before after seat seat' added rest result
  -- the source was read to its end, all frames in its bytes were taken, and the last call is Close
  whole : next_in rest ≡ None → IsAtEnd after.left → Last (λ call. IsClose call.input) added → Ending before after seat seat' added rest result

-- the calls of a connection
pub record Serves (allows : Allows) (confirms : Confirms) (before after : StreamSeen) (seat seat' : SeatState) (result : Result (Unit {0}) NoMemory) : Type 0 where
  pub added : List Call
  pub calls : seat'.calls ≡ seat.calls ++ added
  pub conn : seat'.conn ≡ seat.conn
  -- these bytes were read, and the calls take the inputs of their frames in order, up to some index
  pub given : List ℕ
  pub read : before.left ≡ prepend given after.left
  pub rest : FrameBytes
  pub inputs : Gives (pushed no_bytes given) (framed_in added) rest
  -- each question is answered by the next call, as the agent's user answered it; except the last one if a call was
  -- refused or memory ran out
  pub asked : Option Question
  pub questions : Follows allows confirms None added asked
  pub unanswered : (asked ≡ None) ⊎ (Rose seat.refused seat'.refused ⊎ RanOut result)
  -- only the last call may be Close, and only its answer may close the connection
  pub ends : EndsLast added
  -- the answers are written in order; if a write failed or memory ran out, the end of the last one may be missing
  pub written : List ℕ
  pub unwritten : List ℕ
  pub held : after.held ≡ append before.held written
  pub output : replies_of added ≡ written ++ unwritten
  pub cut : (unwritten ≡ []) ⊎ (Last (λ call. EndsWith (reply call.output) unwritten) added × (Rose before.write_faults after.write_faults ⊎ RanOut result))
  pub ending : Ending before after seat seat' added rest result

-- ---- in progress

-- an open question has an answer that is allowed
abbrev pub Opens : Allows → Confirms → Option Question → Option AgentInput → Type 0
Opens allows confirms None None = Unit {0}
Opens allows confirms (Some asked) (Some answer) = FitsQuestion allows confirms (Some asked) answer
Opens allows confirms asked answer = ⊥

-- the calls so far, with the bytes still in the frames and the answer to the open question
pub record Serving (allows : Allows) (confirms : Confirms) (before now : StreamSeen) (seat seat' : SeatState) (frames : FrameBytes) (answer : Option AgentInput) : Type 0 where
  pub added : List Call
  pub calls : seat'.calls ≡ seat.calls ++ added
  pub conn : seat'.conn ≡ seat.conn
  pub given : List ℕ
  pub read : before.left ≡ prepend given now.left
  pub inputs : Gives (pushed no_bytes given) (framed_in added) frames
  pub asked : Option Question
  pub questions : Follows allows confirms None added asked
  pub opens : Opens allows confirms asked answer
  pub going : AllGoOn added
  pub held : now.held ≡ append before.held (replies_of added)
  pub read_later : before.read_faults ≤ now.read_faults
  pub write_later : before.write_faults ≤ now.write_faults
  pub unrefused : seat'.refused ≡ seat.refused

-- the result of reading more: bytes that are pushed, or no bytes if the source ended or failed
abbrev pub ReadsMore : FrameBytes → FrameBytes → StreamSeen → StreamSeen → Result Bool NoMemory → Type 0
ReadsMore frames frames' before after (Ok true) = (piece : List ℕ) × (before.left ≡ prepend piece after.left) × (frames' ≡ pushed frames piece)
ReadsMore frames frames' before after (Ok false) = (before.left ≡ after.left) × (frames' ≡ frames) × (Rose before.read_faults after.read_faults ⊎ IsAtEnd after.left)
ReadsMore frames frames' before after (Err e) = (piece : List ℕ) × (before.left ≡ prepend piece after.left)

-- the bytes that were read so far, all of which were pushed to the frames
pub record ReadSoFar (frames frames' : FrameBytes) (before after : StreamSeen) : Type 0 where
  pub given : List ℕ
  pub read : before.left ≡ prepend given after.left
  pub kept : frames' ≡ pushed frames given

-- the next input from the stream; None if the source ended or failed, and then no frame remains
abbrev pub Fetches : FrameBytes → FrameBytes → StreamSeen → StreamSeen → Result (Option AgentInput) NoMemory → Type 0
Fetches frames frames' before after (Ok (Some input)) = (given : List ℕ) × (before.left ≡ prepend given after.left) × (framed input ≡ input ∷ []) × (next_in (pushed frames given) ≡ Some (input, frames'))
Fetches frames frames' before after (Ok None) = (given : List ℕ) × (before.left ≡ prepend given after.left) × (frames' ≡ pushed frames given) × (next_in frames' ≡ None) × (Rose before.read_faults after.read_faults ⊎ IsAtEnd after.left)
Fetches frames frames' before after (Err e) = (given : List ℕ) × (before.left ≡ prepend given after.left)

-- a call of this input was answered, and the seat has it
pub record IsCall (seat seat' : SeatState) (input : AgentInput) (call : Call) : Type 0 where
  pub given : call.input ≡ input
  pub calls : seat'.calls ≡ seat.calls ++ call ∷ []
  pub conn : seat'.conn ≡ seat.conn
  pub unrefused : seat'.refused ≡ seat.refused

-- a refused call changes only the count
pub record IsRefused (seat seat' : SeatState) : Type 0 where
  pub calls : seat'.calls ≡ seat.calls
  pub conn : seat'.conn ≡ seat.conn
  pub counted : Rose seat.refused seat'.refused

-- a prefix of the piece was written
abbrev pub WroteFront : StreamSeen → StreamSeen → List ℕ → Type 0
WroteFront before after piece = (written rest : List ℕ) × (piece ≡ written ++ rest) × (after.held ≡ append before.held written)

-- what comes after an answer
abbrev pub Answered : Allows → Confirms → StreamSeen → StreamSeen → AgentOutput → Next → Type 0
Answered allows confirms before after output steps.Goes = (IsClosed output → ⊥) × (question output ≡ None) × (after.held ≡ append before.held (reply output))
Answered allows confirms before after output (steps.Asks answer) =
    (asked : Question) × (question output ≡ Some asked) × FitsQuestion allows confirms (Some asked) answer × (reply output ≡ []) × (after.held ≡ before.held)
Answered allows confirms before after output (steps.Ends ends.Refused) = ⊥
Answered allows confirms before after output (steps.Ends ends.Closed) = IsClosed output × (after.held ≡ before.held)
Answered allows confirms before after output (steps.Ends ends.WriteFailed) = (question output ≡ None) × WroteFront before after (reply output) × Rose before.write_faults after.write_faults
Answered allows confirms before after output (steps.Ends ends.Starved) = (question output ≡ None) × WroteFront before after (reply output)

-- the effect of one call, by what comes after it
abbrev pub Turned : Allows → Confirms → AgentInput → StreamSeen → StreamSeen → SeatState → SeatState → Next → Type 0
Turned allows confirms input before after seat seat' (steps.Ends ends.Refused) = IsRefused seat seat' × (after.held ≡ before.held)
Turned allows confirms input before after seat seat' next = (call : Call) × IsCall seat seat' input call × Answered allows confirms before after call.output next

-- the serving returns out of memory only where memory ran out
abbrev pub Returns : Ended → Result (Unit {0}) NoMemory → Type 0
Returns ends.Starved result = RanOut result
Returns ended (Ok done) = Unit {0}
Returns ended (Err e) = ⊥

-- the call of Close, which asks no question and writes nothing; or it was refused
abbrev pub Closes : SeatState → SeatState → Type 0
Closes seat seat' = ((call : Call) × IsCall seat seat' inputs.Close call × (question call.output ≡ None) × (reply call.output ≡ [])) ⊎ IsRefused seat seat'

-- the input of the next call: the answer to the open question, or the stream's next input
abbrev pub Fetched : Option AgentInput → FrameBytes → FrameBytes → StreamSeen → StreamSeen → Result (Option AgentInput) NoMemory → Type 0
Fetched (Some answer) frames frames' before after result = (result ≡ Ok (Some answer)) × (frames' ≡ frames) × (after ≡ before)
Fetched None frames frames' before after result = Fetches frames frames' before after result
