pub mod NowFrom
pub mod ActsGo
pub mod LockRows
pub mod RunGo
pub mod RunMay
pub mod RunPieces
pub mod RunSteps
