-- What a step of the agent does, in plain terms: one of six things, whatever row it takes. The laws of a step are about
-- these.
use Rattle.std.specs.Prelude.{◌≡◌, ◌⊎◌, ℕ, List, [], ◌∷◌, Option, Some, None}
use Rattle.sshc_wire.specs.Wire.{string_text}
use Rattle.sshc_wire.specs.declared.message_type.MessageType.{MessageType}
use Rattle.sshc_key.specs.Asking.{Answer, Asking, SignRequest, asks, call_of, done}
use Rattle.sshc_key.specs.Signers.{SignCall}
use Rattle.sshc_key.specs.declared.signer.Asker.TheVariants.{Agent}
use Rattle.sshc_key.specs.AgentNumbers.{FAILURE, SIGN_RESPONSE}
use Rattle.sshc_agent_core.specs.declared.connections.Standing.{Standing}
use Rattle.sshc_agent_core.specs.declared.connections.Standing.TheVariants as standings
use Rattle.sshc_agent_core.specs.declared.input.AgentInput.{AgentInput}
use Rattle.sshc_agent_core.specs.declared.input.AgentInput.TheVariants as inputs
use Rattle.sshc_agent_core.specs.declared.input.AgentOutput.{AgentOutput}
use Rattle.sshc_agent_core.specs.declared.input.AgentOutput.TheVariants as outputs
use Rattle.sshc_agent_core.specs.declared.input.Cause.TheVariants as causes
use Rattle.sshc_agent_core.specs.declared.key_list.HeldKey.{HeldKey}
use Rattle.sshc_agent_core.specs.AgentHistory.{IsPermitted, IsUnlock, MaySign, request_of, stands_in, success}
use Rattle.sshc_agent_core.specs.AgentList.{AgentList, aged, seen, standing, starved}
use Rattle.sshc_agent_core.specs.AgentTable.Sign.{signed_row}
use Rattle.sshc_agent_core.specs.KeyList.{held, listing}
use Rattle.sshc_agent_core.specs.LockLaw.{IsLock}
use Rattle.sshc_agent_core.specs.Turn.{Outcome, Turn, frame, ignored, says, signs}

-- ---- requests

-- what an acknowledged request changes: keys, by an unlocked agent, or the lock
pub data Changes (l : AgentList) (whole : List ℕ) (next : AgentList) : Type 0 where
  keyed : (keys : List HeldKey) → l.passphrase ≡ None → ((p : List ℕ) → IsLock p whole → ⊥) → next ≡ record l { keys = keys } → Changes l whole next
  locks : (p : List ℕ) → l.passphrase ≡ None → IsLock p whole → next ≡ record l { passphrase = Some p } → Changes l whole next
  unlocks : (p : List ℕ) → l.passphrase ≡ Some p → IsUnlock p whole → next ≡ record l { passphrase = None } → Changes l whole next

-- what a request is answered without the signer, and the agent after it
pub data Says (l : AgentList) (whole : List ℕ) (next : AgentList) (output : AgentOutput) : Type 0 where
  fails : next ≡ l → output ≡ frame (FAILURE ∷ []) → Says l whole next output
  lists : l.passphrase ≡ None → next ≡ l → output ≡ frame (listing l.keys) → Says l whole next output
  closes : next ≡ l → output ≡ outputs.Closed causes.Unreadable → Says l whole next output
  asks_request : (message : MessageType) → next ≡ l → output ≡ outputs.AskRequest message → Says l whole next output
  asks_key : (blob : List ℕ) (key : HeldKey) → l.passphrase ≡ None → held l.keys blob ≡ Some key → next ≡ l → output ≡ outputs.AskKey key.blob → Says l whole next output
  changes : Changes l whole next → output ≡ success → Says l whole next output

-- the same of a row's turn, which may let a key sign that may sign
abbrev pub Turns : AgentList → List ℕ → Type 0 → Turn → Type 0
Turns l whole confirmed (says next stands output) = Says l whole next output
Turns l whole confirmed (signs next key rest) = (next ≡ l) × MaySign l whole confirmed key

-- ---- rows

-- a connection ends: its client went away, its frame is too long, or its request can't be read
abbrev pub IsEnd : AgentOutput → Type 0
IsEnd outputs.Nothing = Unit {0}
IsEnd (outputs.Closed causes.TooLong) = Unit {0}
IsEnd (outputs.Closed causes.Unreadable) = Unit {0}
IsEnd output = ⊥

-- what a row does: it passes the input over, ends the connection, answers, or asks the signer once
pub data RowDoes (conn : ℕ) (l : AgentList) (request : Option (List ℕ)) (confirmed : Type 0) (row : Asking Outcome) : Type 0 where
  passes : row ≡ done (ignored l) → RowDoes conn l request confirmed row
  ends : (output : AgentOutput) → IsEnd output → row ≡ done (record { next = standing conn standings.Closed l; output = output }) → RowDoes conn l request confirmed row
  answers : (whole : List ℕ) (next : AgentList) (stands : Standing) (output : AgentOutput) → request ≡ Some whole → Says l whole next output
      → row ≡ done (record { next = standing conn stands next; output = output }) → RowDoes conn l request confirmed row
  wants : (whole : List ℕ) (key : HeldKey) (q : SignRequest) → request ≡ Some whole → MaySign l whole confirmed key → q.key ≡ key.pair → q.by ≡ Agent conn
      → row ≡ asks q (λ answer. signed_row conn l answer) → RowDoes conn l request confirmed row

-- ---- steps

-- the agent at which a step's row looks: keys whose deadline has come are gone, and the connection is seen
abbrev pub begun : ℕ → ℕ → AgentList → AgentList
begun now conn before = seen conn (aged now before)

-- the request to the signer is permitted
abbrev pub IsPermittedRequest : ℕ → ℕ → AgentInput → AgentList → SignRequest → Type 0
IsPermittedRequest now conn input before q = IsPermitted now conn input before q.by q.key

-- what a step did that had enough memory
pub data Made (now conn : ℕ) (input : AgentInput) (before after : AgentList) (gained : List SignCall) (output : AgentOutput) : Type 0 where
  passed : gained ≡ [] → after ≡ begun now conn before → output ≡ outputs.Nothing → Made now conn input before after gained output
  ended : gained ≡ [] → after ≡ standing conn standings.Closed (begun now conn before) → IsEnd output → Made now conn input before after gained output
  answered : gained ≡ [] → (whole : List ℕ) (next : AgentList) (stands : Standing) → request_of (stands_in before conn) input ≡ Some whole
      → Says (begun now conn before) whole next output → after ≡ standing conn stands next → Made now conn input before after gained output
  signed : (q : SignRequest) (signature : List ℕ) → gained ≡ call_of q (Some signature) ∷ [] → IsPermittedRequest now conn input before q
      → after ≡ standing conn standings.Open (begun now conn before) → output ≡ frame (SIGN_RESPONSE ∷ string_text signature) → Made now conn input before after gained output
  refused : (q : SignRequest) → gained ≡ call_of q None ∷ [] → IsPermittedRequest now conn input before q
      → after ≡ standing conn standings.Closed (begun now conn before) → output ≡ outputs.Closed causes.SignerRefused → Made now conn input before after gained output

-- what the signer was asked before memory ran out
abbrev pub Cut : ℕ → ℕ → AgentInput → AgentList → List SignCall → Type 0
Cut now conn input before gained = (gained ≡ []) ⊎ ((q : SignRequest) × (answer : Answer) × (gained ≡ call_of q answer ∷ []) × IsPermittedRequest now conn input before q)

-- what a step did
pub data StepDoes (now conn : ℕ) (input : AgentInput) (before after : AgentList) (gained : List SignCall) (output : AgentOutput) : Type 0 where
  made : Made now conn input before after gained output → StepDoes now conn input before after gained output
  starves : Cut now conn input before gained → after ≡ starved now conn before → output ≡ outputs.Closed causes.NoMemory → StepDoes now conn input before after gained output
