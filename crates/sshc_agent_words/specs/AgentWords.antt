-- The command-line arguments that run an agent, and the statuses with which it ends.
use Rattle.std.specs.Prelude.{◌≡◌, ℕ, List, [], ◌∷◌, codes}
use Rattle.sshc_agent_shared.specs.declared.error.CloseError.{CloseError}
use Rattle.sshc_agent_shared.specs.declared.error.CloseError.TheVariants.{NoMemory, SeatsOut, Torn}
use Rattle.sshc_agent.specs.Ends.{Differs}

-- `agent` and a path
abbrev pub IsAgent : List (List ℕ) → Type 0
IsAgent words = (path : List ℕ) × (words ≡ codes "agent" ∷ path ∷ [])

-- the status of a server that ended without a history
abbrev pub error_status : CloseError → ℕ
error_status NoMemory = 20
error_status (Torn conn at got kept) = 47
error_status (SeatsOut made given) = 48

-- a server that ended with a history, one that ended without, where two numbers or two calls differ, or a socket that
-- can't be created
pub data EndsAgent (status : ℕ) : Type 0 where
  ended : status ≡ 0 → EndsAgent status
  failed : (why : CloseError) → Differs why → status ≡ error_status why → EndsAgent status
  not_bound : status ≡ 46 → EndsAgent status
