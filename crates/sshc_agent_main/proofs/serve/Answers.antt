use denote.Param.Send.{sendable}
use Rattle.sshc_agent_words.proofs.Sending.{signer_send}
use Rattle.sshc_agent_main.proofs.serve.Goals as goal

pub serve_generations-requires-send-G : goal.serve_generations-requires-send-G
serve_generations-requires-send-G c κs within = search (signer_send, sendable) depth 20
