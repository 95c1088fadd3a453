-- Why a server ends without a history.
use Rattle.std.specs.Prelude.{◌≢◌}
use Rattle.sshc_agent_shared.specs.declared.error.CloseError.{CloseError}
use Rattle.sshc_agent_shared.specs.declared.error.CloseError.TheVariants.{NoMemory, SeatsOut, Torn}

-- an error has two numbers or two calls, and these differ
abbrev pub Differs : CloseError → Type 0
Differs NoMemory = Unit {0}
Differs (SeatsOut made given) = made ≢ given
Differs (Torn conn at got kept) = got ≢ kept
