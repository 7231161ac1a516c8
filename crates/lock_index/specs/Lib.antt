pub mod IndexWords
pub mod TicketWords
