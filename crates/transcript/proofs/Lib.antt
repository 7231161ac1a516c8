pub mod PartLemmas
pub mod LineLemmas
pub mod OneText
