pub mod SearchLemmas
pub mod NumberLemmas
pub mod SpanLemmas
pub mod KeyLemmas
pub mod SessionLemmas
pub mod IndexLemmas
