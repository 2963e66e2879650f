pub mod CommandTexts
pub mod Drafts
pub mod Lines
pub mod Logged
mod LogRows
pub mod Turns
