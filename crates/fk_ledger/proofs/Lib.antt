mod ChangeLists
mod Texts
mod WordLists
mod PayloadLaws
mod RecordReads
mod EntryLists
mod RoomLaws
mod Rows
mod OpeningLaws
pub mod LedgerLaws
pub mod StretchLaws
mod IndexLaws
mod OutlineLaws
mod AnewLaws
mod CopyLaws
mod CompactionLaws
mod OlderLaws
mod MigrationLaws
pub mod EitherFormat
