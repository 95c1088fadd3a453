-- Facts that the proofs of the functions cite.
pub mod RunNames
pub mod Lines
mod Keeping
pub mod AnsweredQuestions
pub mod TakenEvents
pub mod OpeningSteps
pub mod OpeningCauses
pub mod ReadyTurns
pub mod SessionSteps
pub mod SignerFaults
pub mod RunReplies
pub mod RunChannels
pub mod RunOpenCounts
pub mod RunUnfold
pub mod RunLoop
pub mod OpeningContinues
pub mod RunLaws
pub mod PartRuns
pub mod Products
pub mod ProductTurns
pub mod OpeningFirsts
pub mod AgentsTurns
pub mod SessionPart
pub mod EventTurns
pub mod AskersLaws
pub mod HostKeyGate
pub mod RunHistories
pub mod Promises
pub mod RunCauses
pub mod ScriptExtension
pub mod StandardFacts
mod ShortUsers
mod RunPasswords
mod RunSigned
pub mod RunCalls
mod OpenedKeys
pub mod KeptPromises
pub mod PausedLemmas
mod PathLaws
pub mod SessionTurns
pub mod OpeningTurns
mod RunSteps
