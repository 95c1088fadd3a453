pub mod Answers
pub mod Lines
pub mod Marks
pub mod Numbers
pub mod Places
pub mod Tickets
