pub mod CacheLemmas
pub mod SpanSets
pub mod SpanLemmas
