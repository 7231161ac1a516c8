pub mod SpanWords
pub mod Ranges
pub mod Indexes
