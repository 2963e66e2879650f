pub mod Request
pub mod Permits
pub mod Granted
pub mod Shape
pub mod Sendable
