-- Calls of an agent that lasts whose signatures are made outside the lock. The step that is made under the lock afterwards
-- may have a seam before it.
use Rattle.std.specs.Prelude.{◌≡◌, ◌≢◌, ◌⊎◌, ℕ, Bool, List, [], ◌∷◌, Some, Ok, IfOk}
use Rattle.sshc_key.specs.Asking.{Answer, SignRequest, call_of as answered_by}
use Rattle.sshc_key.specs.Signers.{SignCall}
use Rattle.sshc_agent_core.specs.declared.input.AgentInput.{AgentInput}
use Rattle.sshc_agent_core.specs.declared.input.AgentOutput.TheVariants.{Closed}
use Rattle.sshc_agent_core.specs.declared.input.Cause.TheVariants.{SignerRefused}
use Rattle.sshc_agent_core.specs.AgentHistory.{IsPermitted}
use Rattle.sshc_agent_core.specs.AgentList.{AgentList}
use Rattle.sshc_agent_core.specs.Asked.{asked_of}
use Rattle.sshc_agent_shared.specs.declared.call.Call.{Call}
use Rattle.sshc_agent_shared.specs.declared.lasting_apart.LastingBegun.{LastingBegun}
use Rattle.sshc_agent_shared.specs.declared.lasting_apart.LastingBegun.TheVariants.{Asks, Made}
use Rattle.sshc_agent_shared.specs.Calls.{call_of}
use Rattle.sshc_agent_shared.specs.Generations.{IsLastingStep, IsReached, LastingView}
use Rattle.sshc_agent_shared.specs.Lasting.{TakesOn}

-- generations lead to an agent of which the input asks this: an unlocked one that holds the key, confirmed if it requires
-- that
pub record IsLastingQuestion (asks : Bool) (conn now : ℕ) (input : AgentInput) (q : SignRequest) : Type 0 where
  pub before : AgentList
  pub reached : IsReached asks before
  pub asked : asked_of now conn input before ≡ Some q
  pub permitted : IsPermitted now conn input before q.by q.key

-- the call asks for a signature, and nothing has changed; or it asks for none, and is made
abbrev pub BeginsOn : ℕ → LastingView → LastingView → ℕ → ℕ → AgentInput → LastingBegun → Type 0
BeginsOn limit old new conn now input (Asks kept q) = (new ≡ old) × (kept ≡ input) × (asked_of now conn input old.generation.of.list ≡ Some q)
BeginsOn limit old new conn now input (Made result seam) = TakesOn limit old new conn now input [] result seam

-- the same, as far as a caller can see
abbrev pub LastingBegunSeen : Bool → ℕ → ℕ → AgentInput → LastingBegun → Type 0
LastingBegunSeen asks conn now input (Asks kept q) = (kept ≡ input) × IsLastingQuestion asks conn now input q
LastingBegunSeen asks conn now input (Made result seam) = IfOk result (λ out. IsLastingStep asks conn (call_of now input out) [] × (out ≢ Closed SignerRefused))

-- the signer was asked nothing, or once: what the input asked of an agent to which generations lead
abbrev pub AsksLastingOnce : Bool → ℕ → ℕ → AgentInput → List SignCall → Type 0
AsksLastingOnce asks conn now input gained =
    (gained ≡ []) ⊎ ((q : SignRequest) × (answer : Answer) × (gained ≡ answered_by q answer ∷ []) × IsLastingQuestion asks conn now input q)

-- the call is a step of an agent to which generations lead, which took the signature or none
pub record TellsLastingApart (asks : Bool) (conn : ℕ) (call : Call) (gained : List SignCall) : Type 0 where
  pub taken : List SignCall
  pub of : (taken ≡ gained) ⊎ (taken ≡ [])
  pub tells : IsLastingStep asks conn call taken
