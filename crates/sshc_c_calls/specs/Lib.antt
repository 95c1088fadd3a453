pub mod AgentInputs
pub mod AgentOutputs
pub mod CopiedOut
pub mod HostAnswers
pub mod Questions
