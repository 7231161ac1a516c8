pub mod RunLemmas
mod Frame
mod ConditionLaws
pub mod Numbers
pub mod Orders
pub mod OrderLaws
pub mod Clashes
pub mod Lists
pub mod HoldRows
pub mod LockRows
pub mod Pairs
pub mod LockLaws
pub mod Issued
pub mod Bases
pub mod SeenTold
pub mod SeenLaw
mod NoSession
pub mod Deeds
mod DeedLaws
pub mod ToldItems
mod ToldItemLaws
mod Strangers
pub mod Epochs
mod EpochLaws
pub mod MetOnce
pub mod MetLaws
mod OpenTransactions
pub mod BegunItems
pub mod Ordered
pub mod PairReads
