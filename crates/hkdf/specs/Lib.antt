pub mod Hmac
pub mod Keyed
pub mod Hkdf
pub mod MessageKeys
pub mod Known
