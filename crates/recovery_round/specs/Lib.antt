pub mod RoundWords
pub mod Laws
