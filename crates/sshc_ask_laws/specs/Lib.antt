pub mod AgentRound
