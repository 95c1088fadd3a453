use Rattle.std.proofs.Common.{◌≡◌, take}
use Rattle.sshc_wire.specs.Contents.{append}
use Rattle.sshc_hosts_words.specs.Told.{key_lines}
use Rattle.sshc_hosts_words.proofs.key_lines.write_key_lines.Given as goal

abbrev pub invariant-loop-known : goal.invariant-loop-known
invariant-loop-known g l =
    (g.K.Sink.contents l.sink ≡ append (g.K.Sink.contents l.initial.sink) (key_lines (take l.known-index l.keys)))
    × (g.K.Sink.faults l.sink ≡ g.K.Sink.faults l.initial.sink)
