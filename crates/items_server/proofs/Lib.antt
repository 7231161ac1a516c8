pub mod ItemRows
pub mod OrderPieces
pub mod FrameWays
pub mod Grew
pub mod LearntTold
pub mod DeedItems
pub mod FrameItems
pub mod ItemsEnter
