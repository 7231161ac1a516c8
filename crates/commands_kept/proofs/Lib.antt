pub mod CommandsShort
pub mod CommandsJobs
pub mod CommandsApps
