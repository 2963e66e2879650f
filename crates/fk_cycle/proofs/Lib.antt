pub mod KeptLemmas
pub mod FreshLemmas
pub mod StandsLemmas
pub mod ActLemmas
pub mod RankLemmas
pub mod RecordLemmas
pub mod TimedLemmas
pub mod DueLemmas
pub mod DuesLemmas
mod WorkedRow
