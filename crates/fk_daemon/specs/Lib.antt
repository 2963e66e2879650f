pub mod Outside
pub mod Account
pub mod Moments
pub mod Serving
pub mod Visits
pub mod Sessions
