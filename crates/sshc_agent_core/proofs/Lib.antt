mod Listings
mod Telling
mod AskedLemmas
mod Living
pub mod Constrained
mod Stepped
mod Fronts
pub mod Listable
mod Short
mod StoredLemmas
mod DueLists
mod DueLemmas
mod DueCuts
pub mod Sending
mod Standings
mod Hints
