use denote.Param.Send.{sendable}
use Rattle.sshc_agent.proofs.Sending.{lasting_server_sync, line_send}
use Rattle.sshc_agent.proofs.generations.fn.serve_lines.scope.Goals as goal

-- the closure captures the server, the handle and the connection
pub spawn-requires-send-F : goal.spawn-requires-send-F
spawn-requires-send-F g c κs within =
    let h = c.requires.handle in let rt = h.0 in let l = h.1.0 in let a = h.1.1.1.0 in let p = h.1.1.1.1.0 in
    let s = h.1.1.1.1.1.0 in let k = h.1.1.1.1.1.1.0 in let i = h.1.1.1.1.1.1.1 in
    search (lasting_server_sync, line_send, sendable) depth 20 fits 20000

-- if no thread can be started, it runs here
pub spawn-requires-in-Err : goal.spawn-requires-in-Err
spawn-requires-in-Err g c =
    let h = c.requires.handle in let rt = h.0 in let l = h.1.0 in let b = h.1.1.0 in let a = h.1.1.1.0 in let p = h.1.1.1.1.0 in
    let s = h.1.1.1.1.1.0 in let k = h.1.1.1.1.1.1.0 in let i = h.1.1.1.1.1.1.1 in
    search (sendable) depth 20 fits 20000
