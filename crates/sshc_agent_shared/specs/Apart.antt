-- Calls whose signatures are made outside the lock (draft-miller-ssh-agent, section 3.6). What an input asks to be signed is
-- looked up under the lock, and the signature is made outside it. The call is the step that is made under the lock
-- afterwards: it takes the signature only if it asks just that, and so stands in the history where that step does.
use Rattle.std.specs.Prelude.{◌≡◌, ◌≢◌, ◌⊎◌, ℕ, List, [], ◌∷◌, Option, Some, None, Ok, Err}
use Rattle.sshc_key.specs.Asking.{Answer, SignRequest, call_of as answered_by}
use Rattle.sshc_key.specs.Signers.{SignCall}
use Rattle.sshc_agent_core.specs.declared.entry.Entry.{Entry}
use Rattle.sshc_agent_core.specs.declared.input.AgentInput.{AgentInput}
use Rattle.sshc_agent_core.specs.declared.input.AgentOutput.TheVariants.{Closed}
use Rattle.sshc_agent_core.specs.declared.input.Cause.TheVariants.{SignerRefused}
use Rattle.sshc_agent_core.specs.AgentHistory.{IsLegal, IsPermitted}
use Rattle.sshc_agent_core.specs.Asked.{asked_of}
use Rattle.sshc_agent_shared.specs.declared.apart.Begun.{Begun}
use Rattle.sshc_agent_shared.specs.declared.apart.Begun.TheVariants.{Asks, Made}
use Rattle.sshc_agent_shared.specs.declared.call.Call.{Call}
use Rattle.sshc_agent_shared.specs.Calls.{call_of}
use Rattle.sshc_agent_shared.specs.Closing.{RefusalSeen, Tells}
use Rattle.sshc_agent_shared.specs.Kept.{Adds, SeatState, SharedState, refused_once}

-- ---- the signature

-- the signer's call that made the signature, if there is one
abbrev pub signed_calls : Option SignCall → List SignCall
signed_calls None = []
signed_calls (Some call) = call ∷ []

-- the signer refused
abbrev pub IsRefusal : Option SignCall → Type 0
IsRefusal None = ⊥
IsRefusal (Some call) = call.answer ≡ None

-- a step takes the signature, or none
abbrev pub IsTaken : Option SignCall → List SignCall → Type 0
IsTaken signed taken = (taken ≡ signed_calls signed) ⊎ (taken ≡ [])

-- ---- the first part

-- the input asks this of an agent to which some legal history leads: an unlocked one that holds the key, confirmed if it
-- requires that
pub record IsQuestion (conn now : ℕ) (input : AgentInput) (q : SignRequest) : Type 0 where
  pub earlier : List Entry
  pub legal : IsLegal earlier
  pub asked : asked_of now conn input legal.last ≡ Some q
  pub permitted : IsPermitted now conn input legal.last q.by q.key

-- the call asks for a signature, and nothing has changed; or it asks for none, and is made
abbrev pub Begins : SharedState → SharedState → SeatState → SeatState → ℕ → AgentInput → Begun → Type 0
Begins old new before after now input (Asks kept q) = (new ≡ old) × (after ≡ before) × (kept ≡ input) × (asked_of now before.conn input old.list ≡ Some q)
Begins old new before after now input (Made (Ok out)) = Adds old new before after now input [] out
Begins old new before after now input (Made (Err e)) = (new ≡ old) × (after ≡ refused_once before)

-- the same, as far as a caller can see
abbrev pub BegunSeen : SeatState → SeatState → ℕ → AgentInput → Begun → Type 0
BegunSeen before after now input (Asks kept q) = (after ≡ before) × (kept ≡ input) × IsQuestion before.conn now input q
BegunSeen before after now input (Made (Ok out)) = Tells before after (call_of now input out) [] × (out ≢ Closed SignerRefused)
BegunSeen before after now input (Made (Err e)) = (after ≡ refused_once before) × RefusalSeen before e

-- ---- the whole call

-- the signer was asked nothing, or once: what the input asked of an agent to which some legal history leads
abbrev pub AsksOnce : ℕ → ℕ → AgentInput → List SignCall → Type 0
AsksOnce conn now input gained = (gained ≡ []) ⊎ ((q : SignRequest) × (answer : Answer) × (gained ≡ answered_by q answer ∷ []) × IsQuestion conn now input q)

-- the call is a step of an agent to which some legal history leads, which took the signature or none
pub record TellsApart (before after : SeatState) (call : Call) (gained : List SignCall) : Type 0 where
  pub taken : List SignCall
  pub of : (taken ≡ gained) ⊎ (taken ≡ [])
  pub tells : Tells before after call taken
