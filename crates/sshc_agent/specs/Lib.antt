pub mod Talk
pub mod Moments
pub mod Signing
pub mod Ends
pub mod Accepting
