pub mod AgentEvents
pub mod AgentTurns
pub mod InputLaws
pub mod TurnLaws
pub mod PieceLaws
