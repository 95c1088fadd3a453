-- What happened on an agent's connections, in one order, and what a lock and a refusal mean. The rows of the agent
-- table occur only through Steps and Shows.
-- The definitions are about lists of entries, which the code doesn't keep.
use Rattle.std.specs.Prelude.{◌≡◌, ◌⊎◌, ◌==◌, ℕ, Bool, true, false, List, [], ◌∷◌, ◌++◌, drop, length, filter, Option, Some, None, Ok, if◌then◌else◌}
use Rattle.sshc_wire.specs.Reads.{string_at}
use Rattle.sshc_wire.specs.Wire.{string_text}
use Rattle.sshc_key.specs.Signers.{SignCall}
use Rattle.sshc_agent_core.specs.declared.connections.Standing.{Standing}
use Rattle.sshc_agent_core.specs.declared.connections.Standing.TheVariants as standings
use Rattle.sshc_agent_core.specs.declared.entry.Entry.{Entry}
use Rattle.sshc_agent_core.specs.declared.input.AgentInput.{AgentInput}
use Rattle.sshc_agent_core.specs.declared.input.AgentInput.TheVariants as inputs
use Rattle.sshc_agent_core.specs.declared.input.AgentOutput.{AgentOutput}
use Rattle.sshc_agent_core.specs.declared.input.AgentOutput.TheVariants as outputs
use Rattle.sshc_key.specs.AgentNumbers.{FAILURE, SIGN_REQUEST, SIGN_RESPONSE, SUCCESS, UNLOCK}
use Rattle.sshc_agent_core.specs.AgentList.{AgentList, aged, empty_list}
use Rattle.sshc_key.specs.declared.signer.Asker.{Asker}
use Rattle.sshc_key.specs.declared.signer.Asker.TheVariants.{Agent}
use Rattle.sshc_key.specs.PairCode.{KeyPair}
use Rattle.sshc_agent_core.specs.declared.key_list.HeldKey.{HeldKey}
use Rattle.sshc_agent_core.specs.AgentTable.{Shows}
use Rattle.sshc_agent_core.specs.KeyList.{held}
use Rattle.sshc_agent_core.specs.Connections.{seen_in, standing_of}

-- ---- requests and answers

-- the frame that an input is about: its own, or that of the question that it answers
abbrev pub request_of : Option Standing → AgentInput → Option (List ℕ)
request_of stands (inputs.Frame whole) = Some whole
request_of (Some (standings.RequestAsked whole)) (inputs.RequestAnswer allowed) = Some whole
request_of (Some (standings.KeyAsked whole)) (inputs.KeyAnswer confirmed) = Some whole
request_of stands input = None

-- the state of a connection once it is seen
abbrev pub stands_in : AgentList → ℕ → Option Standing
stands_in l conn = standing_of (seen_in l.conns conn) conn

-- the answer that acknowledges a request
abbrev pub success : AgentOutput
success = outputs.Answer (string_text (SUCCESS ∷ []))

-- an unlock with this passphrase
pub record IsUnlock (p : List ℕ) (whole : List ℕ) : Type 0 where
  pub body : List ℕ
  pub rest : List ℕ
  pub number : whole ≡ UNLOCK ∷ body
  pub passphrase : string_at body ≡ Ok (p, rest)

abbrev pub IsUnlockRequest : List ℕ → Option (List ℕ) → Type 0
IsUnlockRequest p None = ⊥
IsUnlockRequest p (Some whole) = IsUnlock p whole

-- no signature and no listing: a failure, a question or no answer
abbrev pub IsLockedOutput : AgentOutput → Type 0
IsLockedOutput (outputs.Answer whole) = whole ≡ string_text (FAILURE ∷ [])
IsLockedOutput output = Unit {0}

-- ---- one step

-- only an acknowledged request changes keys or passphrase, except that keys whose deadline has come are gone
abbrev pub KeepsRefused : ℕ → AgentList → AgentList → AgentOutput → Type 0
KeepsRefused now before after output = (output ≡ success → ⊥) → (after.keys ≡ (aged now before).keys) × (after.passphrase ≡ before.passphrase)

-- the lock stays as it is, nothing is listed, and keys change only by expiring
pub record StaysLocked (p : List ℕ) (now : ℕ) (before after : AgentList) (output : AgentOutput) : Type 0 where
  pub passphrase : after.passphrase ≡ Some p
  pub keys : after.keys ≡ (aged now before).keys
  pub latest : after.latest ≡ (aged now before).latest
  pub quiet : IsLockedOutput output

-- the lock is taken off with its passphrase, and nothing else changes, except that keys expire
pub record IsUnlocked (p : List ℕ) (now conn : ℕ) (input : AgentInput) (before after : AgentList) (output : AgentOutput) : Type 0 where
  pub request : IsUnlockRequest p (request_of (stands_in before conn) input)
  pub passphrase : after.passphrase ≡ None
  pub keys : after.keys ≡ (aged now before).keys
  pub acknowledged : output ≡ success

-- a locked agent signs nothing, and stays locked except for an unlock with its passphrase
pub record KeepsLock (p : List ℕ) (now conn : ℕ) (input : AgentInput) (before after : AgentList) (gained : List SignCall) (output : AgentOutput) : Type 0 where
  pub unsigned : gained ≡ []
  pub lock : StaysLocked p now before after output ⊎ IsUnlocked p now conn input before after output

-- the key of a request of type 13 may sign: the agent is unlocked, the key is held, and either it requires no
-- confirmation or `confirmed` holds
pub record MaySign (l : AgentList) (whole : List ℕ) (confirmed : Type 0) (key : HeldKey) : Type 0 where
  pub unlocked : l.passphrase ≡ None
  pub body : List ℕ
  pub blob : List ℕ
  pub rest : List ℕ
  pub frame : whole ≡ SIGN_REQUEST ∷ body
  pub names : string_at body ≡ Ok (blob, rest)
  pub is_held : held l.keys blob ≡ Some key
  pub confirms : (key.constraints.confirm ≡ false) ⊎ confirmed

-- the signer was asked for a key that may sign by the request, for which a confirmation is the yes to this connection's
-- own question
pub record IsPermitted (now conn : ℕ) (input : AgentInput) (before : AgentList) (by : Asker) (pair : KeyPair) : Type 0 where
  pub whole : List ℕ
  pub request : request_of (stands_in before conn) input ≡ Some whole
  pub key : HeldKey
  pub may : MaySign (aged now before) whole (input ≡ inputs.KeyAnswer true) key
  pub pair_is : pair ≡ key.pair
  pub asker : by ≡ Agent conn

-- every other connection is as it was
abbrev pub KeepsOthers : ℕ → AgentList → AgentList → Type 0
KeepsOthers conn before after = (other : ℕ) → (other ≡ conn → ⊥) → standing_of after.conns other ≡ standing_of before.conns other

-- ---- histories

-- the signature that the signer returned in these calls
abbrev pub signature_in : List SignCall → Option (List ℕ)
signature_in [] = None
signature_in (call ∷ calls) = call.answer

-- what follows the type and the signature's length, in an answer of type 14 (draft-miller-ssh-agent, section 3.6)
abbrev pub signature_at : List ℕ → Option (List ℕ)
signature_at [] = None
signature_at (number ∷ body) = if number == SIGN_RESPONSE then Some (drop 4 body) else None

-- the signature of an answer, after the frame's length
abbrev pub signature_of : AgentOutput → Option (List ℕ)
signature_of (outputs.Answer frame) = signature_at (drop 4 frame)
signature_of output = None

-- an entry is a step, and it has a signature exactly if it shows a call for which the signer returned one
pub record IsEntry (before : AgentList) (e : Entry) (after : AgentList) : Type 0 where
  pub gained : List SignCall
  pub step : Shows e.moment e.conn e.input before after gained e.output
  pub signature : e.signature ≡ signature_in gained

-- an entry has a signature exactly with an answer of type 14, and it is the one in that frame
abbrev pub IsTold : Entry → Type 0
IsTold e = e.signature ≡ signature_of e.output

-- the entries lead from one agent state to another
abbrev pub Leads : AgentList → List Entry → AgentList → Type 0
Leads before [] after = before ≡ after
Leads before (e ∷ entries) after = (mid : AgentList) × IsEntry before e mid × Leads mid entries after

-- how many of the entries belong to a connection
abbrev pub count_of : ℕ → List Entry → ℕ
count_of conn entries = length (filter (λ e. e.conn == conn) entries)

-- the entries of each connection are numbered from 0
abbrev pub AreNumbered : List Entry → List Entry → Type 0
AreNumbered earlier [] = Unit {0}
AreNumbered earlier (e ∷ entries) = (e.number ≡ count_of e.conn earlier) × AreNumbered (earlier ++ e ∷ []) entries

-- a legal history begins with an agent that holds nothing
pub record IsLegal (entries : List Entry) : Type 0 where
  pub asks : Bool
  pub last : AgentList
  pub leads : Leads (empty_list asks) entries last
  pub numbers : AreNumbered [] entries

-- ---- the lock over a history

-- the entry acknowledges an unlock with this passphrase
abbrev pub Unlocks : List ℕ → AgentList → Entry → Type 0
Unlocks p before e = IsUnlockRequest p (request_of (stands_in before e.conn) e.input) × (e.output ≡ success)

-- no entry acknowledges one
abbrev pub NoneUnlocks : List ℕ → (before : AgentList) (entries : List Entry) (after : AgentList) → Leads before entries after → Type 0
NoneUnlocks p before [] after leads = Unit {0}
NoneUnlocks p before (e ∷ entries) after (mid, is, leads) = (Unlocks p before e → ⊥) × NoneUnlocks p mid entries after leads

-- no entry has a signature, lists the keys or is acknowledged
abbrev pub AreLockedOut : List Entry → Type 0
AreLockedOut [] = Unit {0}
AreLockedOut (e ∷ entries) = (e.signature ≡ None) × IsLockedOutput e.output × AreLockedOut entries

-- the agent's state if only time passes
abbrev pub aged_along : List Entry → AgentList → AgentList
aged_along [] l = l
aged_along (e ∷ entries) l = aged_along entries (aged e.moment l)
