use Rattle.std.proofs.Common.{◌≡◌, ◌-◌, length}
use Rattle.sshc_mux.specs.ChannelTable.Sending.{left_of, count_of}
use Rattle.sshc_mux.proofs.waiting.drop_whole.Given as goal

abbrev pub invariant-loop-pending : goal.invariant-loop-pending
invariant-loop-pending l =
    record {
      rest : left_of l.left l.pending.items ≡ left_of l.room l.initial.pending.items;
      used : l.room - count_of l.initial.pending.items ≡ l.left - count_of l.pending.items;
    }

abbrev pub decreases-loop-pending : goal.decreases-loop-pending
decreases-loop-pending l = length l.pending.items
