pub mod AskedParts
pub mod HoldingAgent
pub mod HoldingSession
pub mod RecordReads
pub mod SettingsKept
pub mod StepAnswers
pub mod Taking
