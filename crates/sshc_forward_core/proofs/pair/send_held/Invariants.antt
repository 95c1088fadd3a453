use Rattle.std.proofs.Common.{◌≡◌, ◌+◌, ◌<◌, ◌++◌, length, vec_len, vec_capacity}
use Rattle.sshc_forward_core.specs.PairTurns.{sent_on}
use Rattle.sshc_forward_core.proofs.pair.send_held.Given as goal

abbrev pub invariant-loop-bytes : goal.invariant-loop-bytes
invariant-loop-bytes l =
    record {
      told : l.outputs.items ++ sent_on l.channel l.held.items ≡ l.initial.outputs.items ++ sent_on l.channel l.initial.held.items;
      room : vec_len l.outputs + length l.held.items < vec_capacity l.outputs;
    }

abbrev pub decreases-loop-bytes : goal.decreases-loop-bytes
decreases-loop-bytes l = length l.held.items
