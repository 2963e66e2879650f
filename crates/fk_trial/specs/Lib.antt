pub mod Lines
pub mod Streams
pub mod Trace
pub mod Trial
pub mod Replay
pub mod Sessions
