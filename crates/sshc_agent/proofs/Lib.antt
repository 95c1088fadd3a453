mod Talking
mod Ticking
mod Signed
mod Quiet
mod Reading
pub mod Sending
