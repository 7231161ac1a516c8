pub mod Link
pub mod Numbering
pub mod WindowState
