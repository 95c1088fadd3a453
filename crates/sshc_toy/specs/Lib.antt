pub mod ToyPair
pub mod Keeping
