pub mod Counting
pub mod Delivering
pub mod Ended
pub mod Needs
pub mod Saying
pub mod SentBy
