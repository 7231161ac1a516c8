pub mod NewsNode
pub mod LearntSite
pub mod NewsSite
pub mod NewsPlain
pub mod NewsKept
