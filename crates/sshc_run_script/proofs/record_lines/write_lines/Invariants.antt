use Rattle.std.proofs.Common.{◌≡◌, take}
use Rattle.sshc_run_script.proofs.RunNames.{append, WritesMove, lines}
use Rattle.sshc_run_script.proofs.record_lines.write_lines.Given as goal

abbrev pub invariant-loop-at : goal.invariant-loop-at
invariant-loop-at g l =
    record {
      wrote : g.K.Sink.contents l.sink ≡ append (g.K.Sink.contents l.initial.sink) (lines (take l.at l.out.records));
      same : g.K.Sink.faults l.sink ≡ g.K.Sink.faults l.initial.sink;
      moving : g.K.Sink.empty_writes l.sink ≡ g.K.Sink.empty_writes l.initial.sink;
      moved : WritesMove (g.K.Sink.contents l.initial.sink) (g.K.Sink.contents l.sink) (g.K.Sink.writes l.initial.sink) (g.K.Sink.writes l.sink);
    }
