pub mod CoherenceServer
pub mod CoherenceMoves
