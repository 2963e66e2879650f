pub mod Iterates
