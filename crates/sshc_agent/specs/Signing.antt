-- The signer gets exactly the calls that the steps of a connection's calls make, in their order
-- (draft-miller-ssh-agent, section 3.6).
-- The definitions are about whole lists of calls; the code passes the signer to each call.
use Rattle.std.specs.Prelude.{◌≡◌, ◌≤◌, ℕ, Bool, List, [], ◌∷◌, ◌++◌}
use Rattle.sshc_wire.specs.Faults.{Rose}
use Rattle.sshc_key.specs.Signers.{SignCall}
use Rattle.sshc_agent_core.specs.declared.input.AgentInput.{AgentInput}
use Rattle.sshc_agent_core.specs.declared.input.AgentOutput.TheVariants.{Closed}
use Rattle.sshc_agent_core.specs.declared.input.Cause.TheVariants.{SignerRefused}
use Rattle.sshc_agent_shared.specs.declared.call.Call.{Call}
use Rattle.sshc_agent_shared.specs.Closing.{IsStep}
use Rattle.sshc_agent_shared.specs.Kept.{SeatState}
use Rattle.sshc_agent_shared.specs.LastingApart.{AsksLastingOnce, TellsLastingApart}

-- each call is a step of an agent to which a legal history leads, and the signer's calls are those of all these steps
abbrev pub AreSteps : ℕ → List Call → List SignCall → Type 0
AreSteps conn [] gained = gained ≡ []
AreSteps conn (call ∷ calls) gained = (first rest : List SignCall) × (gained ≡ first ++ rest) × IsStep conn call first × AreSteps conn calls rest

-- the signer's calls during a connection's calls
pub record Signs (signed signed' : List SignCall) (seat seat' : SeatState) : Type 0 where
  -- the calls that were added to the seat
  pub added : List Call
  pub calls : seat'.calls ≡ seat.calls ++ added
  pub conn : seat'.conn ≡ seat.conn
  -- the calls added to the signer's list, which are those of the steps of these calls
  pub gained : List SignCall
  pub list : signed' ≡ signed ++ gained
  pub steps : AreSteps seat.conn added gained

-- ---- why a connection is closed

-- each call whose answer closes the connection because the signer refused has this fact
abbrev pub EachRefused : Type 0 → List Call → Type 0
EachRefused fact [] = Unit {0}
EachRefused fact (call ∷ calls) = (call.output ≡ Closed SignerRefused → fact) × EachRefused fact calls

-- a connection is closed because the signer refused only where the signer's count of refusals rose meanwhile; it never
-- falls
pub record Caused (count count' : ℕ) (seat seat' : SeatState) : Type 0 where
  -- the calls that were added to the seat
  pub added : List Call
  pub calls : seat'.calls ≡ seat.calls ++ added
  pub later : count ≤ count'
  pub cause : EachRefused (Rose count count') added

-- ---- an agent that lasts

-- a call that was answered, or one that was refused, with its moment
pub data Attempt : Type 0 where
  answered : Call → Attempt
  refused : ℕ → AgentInput → Attempt

-- the signer was asked once at most, and what the input asked of an agent to which generations lead; a call that was
-- answered is a step of such an agent, which took the signature or none
abbrev pub IsAttempt : Bool → ℕ → Attempt → List SignCall → Type 0
IsAttempt asks conn (answered call) gained = AsksLastingOnce asks conn call.moment call.input gained × TellsLastingApart asks conn call gained
IsAttempt asks conn (refused now input) gained = AsksLastingOnce asks conn now input gained

-- the signer's calls are those of these attempts, in their order
abbrev pub AreAttempts : Bool → ℕ → List Attempt → List SignCall → Type 0
AreAttempts asks conn [] gained = gained ≡ []
AreAttempts asks conn (attempt ∷ attempts) gained = (first rest : List SignCall) × (gained ≡ first ++ rest) × IsAttempt asks conn attempt first × AreAttempts asks conn attempts rest

-- the signer's calls during a connection's calls
pub record SignsLasting (asks : Bool) (conn : ℕ) (signed signed' : List SignCall) : Type 0 where
  pub attempts : List Attempt
  -- the calls added to the signer's list, which are those of these attempts
  pub gained : List SignCall
  pub list : signed' ≡ signed ++ gained
  pub are : AreAttempts asks conn attempts gained
