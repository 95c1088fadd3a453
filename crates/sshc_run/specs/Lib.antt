pub mod Summary
pub mod GenWords
pub mod Blocks
pub mod Draws
pub mod Events
pub mod Login
