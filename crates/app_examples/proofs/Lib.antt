pub mod EndCases
pub mod JobCases
