pub mod Sending
mod TwoWords
