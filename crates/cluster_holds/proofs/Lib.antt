pub mod Times
pub mod EachMove
pub mod EachState
