use Rattle.std.proofs.Common.{◌≡◌, ◌-◌, [], ◌<◌, ◌≤◌, length, drop}
use Rattle.sshc_wire.specs.Outgoing.{Grows}
use Rattle.sshc_mux.specs.Packets.{adding, payloads}
use Rattle.sshc_mux.specs.ChannelTable.Sending.{sent_of, left_of}
use Rattle.sshc_mux.proofs.waiting.push_sent.Given as goal

abbrev pub invariant-loop-at : goal.invariant-loop-at
invariant-loop-at l =
    record {
      size : 0 < l.left → 0 < l.size;
      none : sent_of l.size l.room l.pending.items ≡ [] → sent_of l.size l.left (drop l.at l.pending.items) ≡ [];
      within : l.at ≤ length l.pending.items;
      output : adding l.out (payloads l.recipient (sent_of l.size l.left (drop l.at l.pending.items))) ≡ adding l.initial.out (payloads l.recipient (sent_of l.size l.room l.pending.items));
      some : Grows l.initial.out.records l.out.records;
      same : l.out.muted ≡ l.initial.out.muted;
      rest : left_of l.left (drop l.at l.pending.items) ≡ left_of l.room l.pending.items;
    }

abbrev pub decreases-loop-at : goal.decreases-loop-at
decreases-loop-at l = length l.pending.items - l.at
