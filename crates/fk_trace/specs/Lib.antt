pub mod Trace
pub mod Ledger
pub mod Idle
pub mod Decision
pub mod Settled
pub mod Attempts
pub mod Orderly
