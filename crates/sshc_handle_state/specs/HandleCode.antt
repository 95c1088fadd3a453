-- The code by which proofs distinguish such states; nothing else depends on it.
use Rattle.std.specs.Coded.{Coded, codes}
use Rattle.sshc_key.specs.KeyCode.{key_code}
use Rattle.sshc_key.specs.PairCode.{key_pair_code}
use Rattle.sshc_auth_event.specs.MethodCode.{method_code}
use Rattle.sshc_client_state.specs.StateCode.{session_code}
use Rattle.sshc_auth_event.specs.declared.event.Event.{Event}
use Rattle.sshc_handle_state.specs.HandleAt.{HandleAt, SubmittedAt}

pub event_code : Coded Event
event_code = hlevel (codes, key_code, key_pair_code, method_code)

pub submitted_code : Coded SubmittedAt
submitted_code = hlevel (codes, event_code)

pub handle_code : Coded HandleAt
handle_code = hlevel (codes, event_code, session_code)
