pub mod Laws
pub mod Walks
pub mod Reads
pub mod StepReads
