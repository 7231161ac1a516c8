pub mod PlaceLemmas
pub mod OwedLemmas
pub mod EntryFacts
pub mod BookLemmas
pub mod EpochLemmas
pub mod LiveLemmas
pub mod BooksLemmas
