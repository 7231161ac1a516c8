pub mod QuietLocks
pub mod QuietCommands
pub mod LockedAsks
pub mod LockWaits
pub mod InputAsks
pub mod AskNames
pub mod LockPuts
