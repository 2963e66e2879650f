pub mod Given
pub mod KeyOf
pub mod Private
pub mod Settings
pub mod Stanzas
pub mod Values
