pub mod ReadLemmas
pub mod StreamLemmas
