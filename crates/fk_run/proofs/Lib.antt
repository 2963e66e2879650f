pub mod Items
pub mod Turns
pub mod Ledgers
pub mod Keeping
pub mod Leaves
pub mod Numbers
pub mod Fronts
pub mod Closings
pub mod Runs
pub mod Starts
pub mod Owed
pub mod Makes
pub mod RowParts
pub mod Cutting
pub mod Pairs
pub mod Stays
pub mod Histories
mod WorkedRows
mod LeftRows
mod HistoryRows
