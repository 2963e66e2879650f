pub mod FieldText
pub mod Fields
pub mod Message
