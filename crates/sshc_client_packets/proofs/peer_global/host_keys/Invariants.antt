use Rattle.std.proofs.Common.{◌≡◌, [], length}
use Rattle.sshc_wire.specs.Whole.{all_at}
use Rattle.sshc_client_packets.specs.Parts.{octets_at}
use Rattle.sshc_client_packets.proofs.KeyLists.{with_keys}
use Rattle.sshc_client_packets.proofs.peer_global.host_keys.Given as goal

-- the keys that were kept, and then those of the remaining strings, are all of them
abbrev pub invariant-loop-c : goal.invariant-loop-c
invariant-loop-c l = with_keys l.keys (all_at octets_at l.c) ≡ with_keys [] (all_at octets_at l.bytes)

abbrev pub decreases-loop-c : goal.decreases-loop-c
decreases-loop-c l = length l.c
