pub mod ItemActs
pub mod Laws
