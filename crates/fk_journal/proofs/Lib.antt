pub mod Told
pub mod Areas
mod Tails
pub mod PutLemmas
mod Forms
pub mod Openings
mod Copies
mod Switches
mod Rows
mod Contents
pub mod Uniqueness
mod Replacing
