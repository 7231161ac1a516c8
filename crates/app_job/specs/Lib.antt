pub mod Limits
pub mod Sites
