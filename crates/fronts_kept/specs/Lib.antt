pub mod Laws
pub mod CacheLaws
