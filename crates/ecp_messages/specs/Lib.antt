pub mod Errors
pub mod Rows
pub mod Ups
pub mod Downs
pub mod Taking
pub mod Readings
