use Rattle.std.proofs.Common.{◌≡◌, ◌*◌, ◌≤◌}
use Rattle.sshc_forward_core.specs.ForwardRun.{streams}
use Rattle.sshc_forward_core.proofs.RunLemmas.{SoFar}
use Rattle.sshc_forward_core.proofs.run.run_forward.Given as goal

abbrev pub invariant-loop-turn : goal.invariant-loop-turn
invariant-loop-turn g l =
    record {
      so_far : SoFar (streams (g.S.Source.left l.initial.source) (g.K.Sink.contents l.initial.sink)) (streams (g.S.Source.left l.source) (g.K.Sink.contents l.sink)) l.core l.at;
      within : l.at ≤ 262148 * l.turn;
      read_same : g.S.Source.faults l.source ≡ g.S.Source.faults l.initial.source;
      write_same : g.K.Sink.faults l.sink ≡ g.K.Sink.faults l.initial.sink;
    }
