pub mod CommandFault
pub mod Fill
pub mod Template
