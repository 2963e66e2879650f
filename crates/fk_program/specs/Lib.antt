pub mod Telling
pub mod Faults
pub mod Files
