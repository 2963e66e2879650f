mod Examples
pub mod Values
pub mod TestLists
pub mod Digests
pub mod Law
pub mod PartsRead
pub mod Lengths
pub mod Written
