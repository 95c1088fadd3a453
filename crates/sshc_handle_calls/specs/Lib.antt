pub mod Answering
pub mod Asking
pub mod Gssapi
pub mod Lines
pub mod Rounds
pub mod Signing
