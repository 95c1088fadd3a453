pub mod Asking
pub mod Judging
mod Hints
