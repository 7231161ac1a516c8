pub mod Parts
pub mod AnswerText
pub mod PieceText
pub mod ActText
pub mod ActGroups
