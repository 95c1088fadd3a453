use Rattle.std.proofs.Common.{◌≡◌, [], ◌<◌, length}
use Rattle.sshc_wire.specs.Outgoing.{Grows}
use Rattle.sshc_mux.specs.Packets.{adding, payloads}
use Rattle.sshc_mux.specs.ChannelTable.Sending.{cut, pieces_of}
use Rattle.sshc_mux.proofs.packets.push_pieces.Given as goal

abbrev pub invariant-loop-rest : goal.invariant-loop-rest
invariant-loop-rest l =
    record {
      size : 0 < length l.rest → 0 < l.size;
      none : l.part ≡ [] → l.rest ≡ [];
      output : adding l.out (payloads l.recipient (pieces_of l.stream (cut l.size l.rest))) ≡ adding l.initial.out (payloads l.recipient (pieces_of l.stream (cut l.size l.part)));
      some : Grows l.initial.out.records l.out.records;
      same : l.out.muted ≡ l.initial.out.muted;
    }

abbrev pub decreases-loop-rest : goal.decreases-loop-rest
decreases-loop-rest l = length l.rest
