pub mod TextLetters
pub mod Law
pub mod Answered
