pub mod Admit
pub mod AdmitFault
pub mod Arrival
pub mod Conditions
pub mod FirstGrant
pub mod KeyConditions
pub mod Private
