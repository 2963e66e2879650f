pub mod Places
pub mod RawLines
pub mod ValueBytes
