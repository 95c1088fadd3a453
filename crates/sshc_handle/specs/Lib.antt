pub mod Answering
pub mod Making
pub mod Refused
pub mod SomeLine
