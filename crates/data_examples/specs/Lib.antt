pub mod Servers
pub mod HelloExamples
pub mod ItemExamples
pub mod ResumeExamples
pub mod LockExamples
pub mod RoundExamples
pub mod AnswerExamples
