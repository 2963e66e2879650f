pub mod Hmac
pub mod MacKey
