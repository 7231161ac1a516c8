pub mod SentWindows
pub mod HeldSteps
pub mod HeldPieces
pub mod HeldAll
pub mod CoherentSteps
