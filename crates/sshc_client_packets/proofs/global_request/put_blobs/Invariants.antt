use Rattle.std.proofs.Common.{◌≡◌, ◌++◌, take}
use Rattle.std.specs.List.{flat_map}
use Rattle.sshc_client_packets.specs.GlobalRequests.{blob_text}
use Rattle.sshc_client_packets.proofs.global_request.put_blobs.Given as goal

abbrev pub invariant-loop-key : goal.invariant-loop-key
invariant-loop-key l = l.out.items ≡ l.initial.out.items ++ flat_map blob_text (take l.key-index l.keys)
