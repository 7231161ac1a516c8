mod Determined
mod Answered
mod Decided
mod Total
mod ShortPairs
mod FetchRuns
