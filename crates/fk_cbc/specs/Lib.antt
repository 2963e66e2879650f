pub mod KeyDerivation
pub mod Padding
pub mod Chain
pub mod Seals
pub mod OpenFault
pub mod Opens
