use Rattle.std.proofs.Common.{◌≡◌, [], drop}
use Rattle.sshc_mux.specs.ChannelTable.{records_of, all_said}
use Rattle.sshc_wire.specs.Outgoing.{Grows}
use Rattle.sshc_mux.specs.Packets.{adding}
use Rattle.sshc_mux.specs.Places.{present}
use Rattle.sshc_mux.proofs.table.sending.push_flushed.Given as goal

abbrev pub invariant-loop-slot : goal.invariant-loop-slot
invariant-loop-slot l = record {
  output : adding l.out (records_of (all_said (present (drop l.slot-index l.slots)))) ≡ adding l.initial.out (records_of (all_said (present l.slots)));
  some : Grows l.initial.out.records l.out.records;
  same : l.out.muted ≡ l.initial.out.muted;
  none : all_said (present l.slots) ≡ [] → all_said (present (drop l.slot-index l.slots)) ≡ [];
}
