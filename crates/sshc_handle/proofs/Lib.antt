mod AnsweringLemmas
mod Hints
mod OpenedLemmas
pub mod Sending
