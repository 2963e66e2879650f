pub mod Blocks
pub mod Examples
pub mod Lengths
pub mod States
