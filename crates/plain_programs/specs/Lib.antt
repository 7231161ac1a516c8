pub mod Indexes
pub mod Search
