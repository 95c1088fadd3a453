use denote.Param.Send.{sendable}
use Rattle.sshc_agent_words.proofs.Sending.{signer_send}
use Rattle.sshc_agent_words.specs.AgentWords.{failed}
use Rattle.sshc_agent_words.proofs.words.serve_at.Goals as goal

pub serve-requires-send-G : goal.serve-requires-send-G
serve-requires-send-G g c κs within = search (signer_send, sendable) depth 20

pub returns-clause-ends : goal.returns-clause-ends
returns-clause-ends g c = failed c.in-Err.why c.in-Err.ensures.differs c.status_of.ensures.status
