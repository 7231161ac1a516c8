pub mod Flows
pub mod Frames
