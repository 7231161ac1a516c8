pub mod Causes
pub mod InMemory
pub mod Plan
pub mod Told
pub mod Took
