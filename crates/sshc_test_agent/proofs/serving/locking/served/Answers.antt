use denote.Param.Send.{sendable}
use Rattle.sshc_agent_words.proofs.Sending.{signer_send}
use Rattle.sshc_test_agent.proofs.serving.locking.served.Goals as goal

pub serve-requires-send-G : goal.serve-requires-send-G
serve-requires-send-G g c κs within = search (signer_send, sendable) depth 20
