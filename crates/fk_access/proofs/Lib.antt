mod Rows
pub mod NetsRead
pub mod BodyReading
pub mod OneList
pub mod PairSteps
pub mod PairsKept
pub mod RingSteps
pub mod StanzaSteps
