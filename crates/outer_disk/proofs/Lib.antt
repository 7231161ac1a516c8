pub mod Crashes
pub mod Images
pub mod Moments
pub mod Picks
pub mod Places
pub mod Replays
pub mod Runs
pub mod Stops
