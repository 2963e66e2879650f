pub mod Shape
pub mod Packs
pub mod Opens
pub mod Pick
pub mod Private
