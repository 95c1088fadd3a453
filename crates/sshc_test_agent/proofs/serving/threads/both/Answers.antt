use denote.Param.Send.{sendable}
use Rattle.sshc_agent.proofs.Sending.{seat_send, shared_sync}
use Rattle.sshc_test_agent.proofs.serving.threads.both.Goals as goal

pub join-one-requires-send-F : goal.join-one-requires-send-F
join-one-requires-send-F g c κs within =
    let l = c.type_bounds.send-L in let r = c.type_bounds.sync-R in search (seat_send, shared_sync, sendable) depth 20
