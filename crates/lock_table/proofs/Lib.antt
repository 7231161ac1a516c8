pub mod HoldLemmas
pub mod IndexLemmas
pub mod CountLemmas
pub mod PassLemmas
pub mod ApartLemmas
pub mod ShuffleLemmas
pub mod OtherLemmas
