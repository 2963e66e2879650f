pub mod Asked
mod WordRows
pub mod WordSteps
pub mod WordErrs
pub mod WordsAsk
