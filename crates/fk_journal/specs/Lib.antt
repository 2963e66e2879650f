pub mod Entries
pub mod Head
pub mod Keeps
pub mod Puts
pub mod Older
