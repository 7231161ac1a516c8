pub mod ChangedLemmas
pub mod ListSteps
pub mod CutSteps
pub mod SoundSteps
pub mod TableSteps
pub mod PositionSteps
pub mod KnownSteps
