pub mod HostKey
pub mod MethodCode
