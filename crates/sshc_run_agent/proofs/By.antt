-- Words that proofs of functions unfold, from one place with a short path.
pub use Rattle.sshc_run_agent.specs.AgentEvents.{key_answer_of, request_answer_of}
pub use Rattle.sshc_run_reader.specs.EventParts.{flag_at, u32_at}
