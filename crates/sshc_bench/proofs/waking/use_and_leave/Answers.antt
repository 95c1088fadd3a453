use denote.Param.Send.{sendable}
use Rattle.std.proofs.Crossing.{crosses}
use Rattle.sshc_handle.proofs.Sending.{handle_sync}
use Rattle.sshc_bench.proofs.waking.use_and_leave.Goals as goal

-- the closure that each thread calls holds the runtime, the handle and a number
pub map_indices-all-requires-sync-F : goal.map_indices-all-requires-sync-F
map_indices-all-requires-sync-F g c κs within = let r = c.type_bounds.sync-R in search (handle_sync, sendable, crosses) depth 20 fits 20000
