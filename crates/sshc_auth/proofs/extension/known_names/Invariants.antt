use Rattle.std.proofs.Common.{◌≡◌, ◌++◌}
use Rattle.std.specs.Prelude.{filter}
use Rattle.sshc_auth.specs.SignatureNames.{is_signature_name}
use Rattle.sshc_auth.proofs.extension.known_names.Given as goal

abbrev pub invariant-loop-name : goal.invariant-loop-name
invariant-loop-name l = filter is_signature_name l.fn.names ≡ l.known ++ filter is_signature_name l.name-iterator
