pub mod Lines
pub mod Cursor
