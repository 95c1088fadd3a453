pub mod Happened
pub mod Messages
