pub mod Pieces
pub mod Calls
pub mod Readings
pub mod Progress
mod Rows
