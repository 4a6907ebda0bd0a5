pub mod Hmac
pub mod Calls
