pub mod Count
pub mod Disk
pub mod Stream
pub mod Files
pub mod Host
pub mod Feed
pub mod Link
