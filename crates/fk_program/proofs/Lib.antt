pub mod Saying
pub mod Counting
