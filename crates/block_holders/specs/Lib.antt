pub mod HolderWords
pub mod Notes
