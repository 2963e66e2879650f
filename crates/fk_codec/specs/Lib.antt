pub mod Spells
pub mod DecodeFault
pub mod Private
