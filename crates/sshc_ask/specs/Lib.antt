pub mod SourceState
pub mod StreamState
pub mod AgentCalls
pub mod Opens
pub mod CallLaws
