use Rattle.std.proofs.Common.{◌≡◌, []}
use Rattle.sshc_wire.specs.Names.{names_in}
use Rattle.sshc_auth.specs.OpeningTable.Auth.{known_behind}
use Rattle.sshc_auth.proofs.opening.auth.known_methods.Given as goal

abbrev pub invariant-loop-name : goal.invariant-loop-name
invariant-loop-name l = known_behind [] (names_in l.list) ≡ known_behind l.methods l.name-iterator
