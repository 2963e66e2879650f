mod Rows
pub mod RcSteps
