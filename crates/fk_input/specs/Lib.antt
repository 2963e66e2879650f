pub mod Lines
pub mod Reading
pub mod Progress
pub mod Private
