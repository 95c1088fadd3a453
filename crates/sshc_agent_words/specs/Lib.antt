pub mod AgentWords
