pub mod WindowLemmas
pub mod WindowFirsts
pub mod SpanTests
