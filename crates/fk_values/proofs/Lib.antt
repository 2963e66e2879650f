pub mod GivenPlaces
pub mod LongTexts
pub mod NameRules
pub mod NetsFound
pub mod Numbers
pub mod PairsRead
pub mod SettingsRead
pub mod StanzaLines
