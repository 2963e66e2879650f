pub mod Rules
pub mod Daemon
pub mod Wanting
pub mod Serving
pub mod Parts
