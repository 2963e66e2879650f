pub mod MessageParts
pub mod MessageLengths
