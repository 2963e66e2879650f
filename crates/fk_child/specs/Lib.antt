pub mod View
pub mod Crew
pub mod Calls
pub mod Private
