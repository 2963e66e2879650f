pub mod Bounds
pub mod Known
pub mod Pieces
mod Rows
pub mod Runs
pub mod Templates
pub mod Values
pub mod Whether
