pub mod PolicyNames
pub mod WrittenPolicy
