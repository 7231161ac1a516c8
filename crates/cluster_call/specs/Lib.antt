pub mod Built
pub mod OutputText
pub mod Outside
pub mod Reading
pub mod Running
pub mod StatusCauses
pub mod Found
