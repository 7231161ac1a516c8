mod Frames
mod FirstRunCases
mod CachedReadCases
mod CrossingCancelCases
mod SentAgainCases
mod CrashCases
mod RefusalCases
