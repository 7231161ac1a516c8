pub mod FirstMoments
pub mod EndsOn
pub mod Hearing
pub mod EndLaws
pub mod PartLaws
pub mod JobLaws
pub mod LineLaws
pub mod Keys
