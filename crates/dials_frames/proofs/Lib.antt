pub mod FollowFrames
pub mod FrameTakes
pub mod TakenDials
pub mod LearntSites
pub mod BeganDials
pub mod FrameNews
pub mod FramesDials
