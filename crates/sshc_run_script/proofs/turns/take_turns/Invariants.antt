use Rattle.std.proofs.Common.{◌≡◌, ◌+◌, ◌*◌, ◌≤◌}
use Rattle.sshc_run_script.specs.LoopInvariant.{IsAlong}
use Rattle.sshc_run_script.proofs.RunNames.{WritesMove, streams, IsReady, run, spot, kept, run_turn, hosts_of}
use Rattle.sshc_run_script.proofs.turns.take_turns.Given as goal

abbrev pub invariant-loop-turn : goal.invariant-loop-turn
invariant-loop-turn g l =
    record {
      along : IsAlong (run (run_turn (hosts_of l.initial.gate) (g.V.Verifier.accepts l.verifier))) (spot l.initial.at.place l.initial.at.last (kept l.initial.at.session l.initial.at.agents)) l.initial.remaining l.turn (spot l.at.place l.at.last (kept l.at.session l.at.agents))
          (streams (g.S.Source.left l.initial.source) (g.K.RecordSink.contents l.initial.sink) (g.S.Source.reads l.initial.source) (g.G.LocalSigner.calls l.initial.signer))
          (streams (g.S.Source.left l.source) (g.K.RecordSink.contents l.sink) (g.S.Source.reads l.source) (g.G.LocalSigner.calls l.signer));
      count : l.turn + l.remaining ≡ l.initial.remaining;
      ready : IsReady l.at.session;
      same : hosts_of l.gate ≡ hosts_of l.initial.gate;
      room : l.at.place + 262148 * l.remaining ≤ l.initial.at.place + 262148 * l.initial.remaining;
      moving : g.S.Source.empty_reads l.source ≡ g.S.Source.empty_reads l.initial.source;
      moving_writes : g.K.RecordSink.empty_writes l.sink ≡ g.K.RecordSink.empty_writes l.initial.sink;
      reads : g.S.Source.faults l.source ≡ g.S.Source.faults l.initial.source;
      moved : WritesMove (g.K.RecordSink.contents l.initial.sink) (g.K.RecordSink.contents l.sink) (g.K.RecordSink.writes l.initial.sink) (g.K.RecordSink.writes l.sink);
      signer : g.G.LocalSigner.refusals l.initial.signer ≤ g.G.LocalSigner.refusals l.signer;
      writes : g.K.RecordSink.faults l.sink ≡ g.K.RecordSink.faults l.initial.sink;
    }
