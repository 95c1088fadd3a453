mod Closing
mod Columns
pub mod Firsts
mod Free
mod LineLemmas
mod Over
mod PlaceLemmas
mod Hints
