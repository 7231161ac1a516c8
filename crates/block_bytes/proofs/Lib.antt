pub mod BlockLengths
pub mod OneRun
pub mod RunReads
