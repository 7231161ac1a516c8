pub mod Undos
pub mod Transactions
pub mod Limits
