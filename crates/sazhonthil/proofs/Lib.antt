pub mod AsBoxAgent
pub mod AsBoxSession
pub mod SessionReads
