pub mod Answering
mod AskingLemmas
mod RoundLemmas
pub mod SigningAnswers
