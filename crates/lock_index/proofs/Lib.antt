pub mod RowLemmas
pub mod KeyLemmas
pub mod TicketLemmas
pub mod NameLemmas
