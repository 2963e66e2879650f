pub mod Addresses
mod DecimalExamples
pub mod DottedBytes
pub mod Fronts
pub mod NumberFronts
pub mod Numerals
pub mod PairTexts
pub mod PairLists
mod TextExamples
pub mod FirstPlaces
pub mod NetTexts
pub mod Joined
pub mod FoundValues
pub mod Cuts
