use Rattle.std.proofs.Common.{◌≡◌, ◌≤◌, map, take}
use Rattle.sshc_mux.specs.Places.{present, flushed_slot, waiting_of}
use Rattle.sshc_mux.proofs.TableLemmas.{half_flushed}
use Rattle.sshc_mux.proofs.table.sending.count_flushed.Given as goal

abbrev pub invariant-loop-slot : goal.invariant-loop-slot
invariant-loop-slot l = record {
  flushed : l.slots ≡ half_flushed l.slot-index l.initial.slots;
  waiting : l.waiting ≡ waiting_of (present (map flushed_slot (take l.slot-index l.initial.slots)));
  most : l.waiting ≤ l.slot-index;
}
