pub mod Truths
pub mod Items
pub mod Answers
pub mod Jobs
pub mod Forced
pub mod LockMarks
pub mod Locks
