pub mod Cuts
pub mod Awaited
pub mod AtEnd
pub mod Strays
pub mod InOrder
