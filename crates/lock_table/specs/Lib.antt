pub mod LockWords
pub mod Counts
pub mod Passing
pub mod LockLaws
pub mod HoldIndex
