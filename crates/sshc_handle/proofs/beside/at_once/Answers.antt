use denote.Param.Send.{sendable}
use Rattle.std.proofs.Crossing.{crosses}
use Rattle.sshc_handle.proofs.Sending.{handle_sync}
use Rattle.sshc_handle.proofs.beside.at_once.Goals as goal

-- the closure holds the use and the handle
pub join-requires-send-F : goal.join-requires-send-F
join-requires-send-F g c κs within =
    let f = c.type_bounds.send-F in let h = c.type_bounds.send-H in search (handle_sync, sendable, crosses) depth 20 fits 20000
