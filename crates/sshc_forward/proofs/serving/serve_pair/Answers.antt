use denote.Param.Send.{sendable}
use Rattle.std.proofs.Crossing.{crosses}
use Rattle.sshc_forward.proofs.Sending.{shared_sync}
use Rattle.sshc_forward.proofs.serving.serve_pair.Goals as goal

-- the closure that reads holds the runtime, what is shared, and the reader
pub join-read-requires-send-F : goal.join-read-requires-send-F
join-read-requires-send-F g c κs within =
    let h = c.type_bounds.send-H in let s = c.type_bounds.send-S in let r = c.type_bounds.sync-R in
    search (shared_sync, sendable, crosses) depth 20 fits 20000
