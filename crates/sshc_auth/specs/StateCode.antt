-- The code by which proofs distinguish states; nothing else depends on it.
use Rattle.std.specs.Coded.{Coded, codes}
use Rattle.sshc_auth_event.specs.MethodCode.{method_code}
use Rattle.sshc_auth.specs.OpeningState.{OpeningState}

pub state_code : Coded OpeningState
state_code = hlevel (codes, method_code)
