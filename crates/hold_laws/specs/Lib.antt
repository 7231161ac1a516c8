pub mod HoldLaws
pub mod HoldChanges
pub mod HoldExamples
