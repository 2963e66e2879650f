pub mod FieldLemmas
pub mod ByteLists
pub mod SubstitutionLemmas
mod Columns
pub mod StateLemmas
pub mod WordLemmas
pub mod TableLemmas
pub mod StateWords
pub mod ScheduleLemmas
pub mod CipherLaws
pub mod EquivalentLaws
mod Vectors
