pub mod Letters
pub mod Symbols
pub mod Rest
pub mod Right
pub mod Faults
pub mod Examples
pub mod BytesFound
