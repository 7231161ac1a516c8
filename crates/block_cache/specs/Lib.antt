pub mod CacheWords
pub mod Numbering
pub mod CacheLends
