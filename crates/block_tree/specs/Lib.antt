pub mod TreeWords
pub mod LeafWords
pub mod Removals
pub mod FlatWords
