pub mod Userauth
pub mod SessionTable
pub mod SessionHistory
