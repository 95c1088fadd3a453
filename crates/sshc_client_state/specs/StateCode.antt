-- The code by which proofs distinguish states of a session; nothing else depends on it.
use Rattle.std.specs.Coded.{Coded, codes}
use Rattle.sshc_key.specs.KeyCode.{key_code}
use Rattle.sshc_key.specs.PairCode.{key_pair_code}
use Rattle.sshc_auth.specs.StateCode.{state_code}
use Rattle.sshc_client_table.specs.SessionState.{SessionState}

pub session_code : Coded SessionState
session_code = hlevel (codes, key_code, key_pair_code, state_code)
