pub mod Apps
pub mod EndExamples
pub mod JobExamples
