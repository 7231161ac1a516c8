pub mod Decimal
pub mod Key
pub mod Span
pub mod NodeOrder
