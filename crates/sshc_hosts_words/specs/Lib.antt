pub mod Port
pub mod Adding
pub mod WordLaws
pub mod Asked
pub mod Told
pub mod HostsWords
