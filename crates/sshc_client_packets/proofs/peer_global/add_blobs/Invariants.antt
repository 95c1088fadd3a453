use Rattle.std.proofs.Common.{◌≡◌, ◌++◌, take}
use Rattle.sshc_client_packets.specs.PeerGlobals.{blobs_of}
use Rattle.sshc_client_packets.proofs.peer_global.add_blobs.Given as goal

abbrev pub invariant-loop-key : goal.invariant-loop-key
invariant-loop-key l = l.blobs ≡ l.initial.blobs ++ blobs_of (take l.key-index l.keys)
