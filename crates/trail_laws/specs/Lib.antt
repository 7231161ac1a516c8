pub mod ExampleTrails
pub mod OrderLaw
pub mod DurableLaw
pub mod PrefixLaw
pub mod Touches
pub mod IncrementLaw
pub mod LockLaw
pub mod RollbackLaw
