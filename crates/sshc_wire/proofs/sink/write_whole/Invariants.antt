use Rattle.std.proofs.Common.{length, ◌-◌, ◌+◌, ◌≡◌, ◌≤◌, take}
use Rattle.sshc_wire.specs.Contents.{append}
use Rattle.sshc_wire.proofs.sink.write_whole.Given as goal

abbrev pub invariant-loop-written : goal.invariant-loop-written
invariant-loop-written g l =
    record {
      within : l.written ≤ length l.piece;
      wrote : g.K.Sink.contents l.sink ≡ append (g.K.Sink.contents l.initial.sink) (take l.written l.piece);
      same : g.K.Sink.faults l.sink ≡ g.K.Sink.faults l.initial.sink;
      counted : g.K.Sink.writes l.sink ≤ g.K.Sink.writes l.initial.sink + l.written;
      moved : g.K.Sink.empty_writes l.sink ≡ g.K.Sink.empty_writes l.initial.sink;
      apart : g.K.Sink.beside l.sink ≡ g.K.Sink.beside l.initial.sink;
    }

abbrev pub decreases-loop-written : goal.decreases-loop-written
decreases-loop-written g l = length l.piece - l.written
