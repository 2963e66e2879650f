pub mod Counting
pub mod Listed
pub mod Ended
pub mod Served
pub mod Tried
pub mod Complete
pub mod Calling
