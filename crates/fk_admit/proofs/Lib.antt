pub mod AllStanzas
pub mod FirstOfAll
pub mod KeyTests
pub mod OnePair
pub mod OneStanza
pub mod PickedPairs
