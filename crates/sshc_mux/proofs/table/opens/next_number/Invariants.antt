use Rattle.std.proofs.Common.{◌≡◌, suc, ◌+◌, ◌-◌, length}
use Rattle.sshc_mux.specs.ChannelTable.Opens.{above, free_from}
use Rattle.sshc_mux.specs.Places.{present}
use Rattle.sshc_mux.proofs.table.opens.next_number.Given as goal

abbrev pub invariant-loop-tried : goal.invariant-loop-tried
invariant-loop-tried l =
    free_from (length l.index.entries + 1) (above l.last) (present l.slots) ≡ free_from (suc (length l.index.entries - l._tried)) l.number (present l.slots)
