pub mod Conditions
pub mod FirstKeys
pub mod Granted
pub mod Permitted
pub mod Shapes
pub mod PlainBytes
pub mod Sealed
pub mod Sent
mod WorkedRow
