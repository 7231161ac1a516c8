pub mod KeyLemmas
pub mod RangeLemmas
pub mod OrderLemmas
pub mod NumberLemmas
pub mod LookLemmas
pub mod TakeLemmas
pub mod FoundLemmas
