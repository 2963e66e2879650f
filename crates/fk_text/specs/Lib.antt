pub mod Text
pub mod TextFault
pub mod Found
pub mod Private
