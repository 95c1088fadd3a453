-- The code by which proofs distinguish methods; nothing else depends on it.
use Rattle.std.specs.Coded.{Coded, codes}
use Rattle.sshc_key.specs.KeyCode.{key_code}
use Rattle.sshc_key.specs.PairCode.{key_pair_code}
use Rattle.sshc_auth_event.specs.declared.method.Method.{Method}

pub method_code : Coded Method
method_code = hlevel (codes, key_code, key_pair_code)
