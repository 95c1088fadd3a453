mod DealingLemmas
mod PickingLemmas
pub mod Replies
mod TakingLemmas
mod Hints
