mod Keys
mod HelloCases
mod ItemCases
mod ResumeCases
mod LockCases
mod RoundCases
mod AnswerCases
