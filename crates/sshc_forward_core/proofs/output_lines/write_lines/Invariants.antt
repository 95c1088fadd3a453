use Rattle.std.proofs.Common.{◌≡◌, take}
use Rattle.sshc_wire.specs.Contents.{append}
use Rattle.sshc_forward_core.specs.OutputLines.{lines}
use Rattle.sshc_forward_core.proofs.output_lines.write_lines.Given as goal

abbrev pub invariant-loop-output : goal.invariant-loop-output
invariant-loop-output g l =
    record {
      wrote : g.K.Sink.contents l.sink ≡ append (g.K.Sink.contents l.initial.sink) (lines (take l.output-index l.outputs));
      same : g.K.Sink.faults l.sink ≡ g.K.Sink.faults l.initial.sink;
    }
