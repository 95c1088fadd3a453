mod Short
mod Messages
mod Constraints
mod Answers
