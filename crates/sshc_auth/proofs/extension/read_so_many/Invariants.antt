use Rattle.std.proofs.Common.{◌≡◌, ◌-◌}
use Rattle.sshc_wire.specs.Counted.{times_at}
use Rattle.sshc_auth.specs.Extensions.{extension_at}
use Rattle.sshc_auth.proofs.CountedLemmas.{behind}
use Rattle.sshc_auth.proofs.extension.read_so_many.Given as goal

abbrev pub invariant-loop : goal.invariant-loop
invariant-loop l = behind l.extensions (times_at (l.n - l.counter) extension_at l.packet) ≡ times_at l.n extension_at l.initial.packet
